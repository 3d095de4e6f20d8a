-- Loops that write a text in each turn.
use Rattle.std.proofs.Common.{◌≡◌, ℕ, ◌+◌, ◌≤◌, List, ◌++◌, Result, Ok, Err, sym, ◌∙◌, append_assoc, flat_map}
use Rattle.std.specs.Result.{IsErr}
use Rattle.device.specs.Writing.{WritesText}
use Rattle.device.specs.declared.sink.Sink.{Ghosts}
use Rattle.device.proofs.Laws.WritingLaws.{HasWritten, HasWritten-more, WritesText-fails}
use Rattle.picture.specs.Text.{below}
use Rattle.picture.proofs.Laws.WritingLaws.{flat_map-below_more, flat_map-below_front}

-- the text of one turn more
pub below_more : (f : ℕ → List ℕ) (k : ℕ) (next : List ℕ) → next ≡ f k
    → flat_map f (below k) ++ next ≡ flat_map f (below (k + 1))
below_more f k next same = rw same (sym (flat_map-below_more f k))

-- A loop whose turns write `f k` for the numbers k, and this turn for those from k to n. The lemmas have more than
-- eight arguments, since the sink's law `took_joined`, the sink before the loop, before and after the turn, and the
-- result are all parts of the goals.
module _ {S : Type 0} (sink : Ghosts S) (took_joined : (s t u : S) (xs ys : List ℕ) → sink.took s t xs
    → sink.took t u ys → sink.took s u (xs ++ ys)) (f : ℕ → List ℕ) (s t u : S) (k n : ℕ) (next : List ℕ)
    (same : flat_map f (below k) ++ next ≡ flat_map f (below n))
    (before : HasWritten sink s t (flat_map f (below k))) where
  -- the turn writes its text
  pub HasWritten-below_more : {T E : Type 0} {x : T} → WritesText {E = E} sink t u next (Ok x)
      → HasWritten sink s u (flat_map f (below n))
  HasWritten-below_more = HasWritten-more sink took_joined s t u (flat_map f (below k)) next _ same before

  -- the turn fails, and more turns and an end would have followed
  pub WritesText-below_fails : {T E U F : Type 0} {fault : F} (all : ℕ) (end text : List ℕ) (r : Result T E) → IsErr r
      → n ≤ all → text ≡ flat_map f (below all) ++ end → WritesText {T = U} sink t u next (Err fault)
      → WritesText sink s u text r
  WritesText-below_fails all end text r err h e =
      let front = flat_map-below_front f n all h in
      WritesText-fails sink took_joined s t u (flat_map f (below k)) next (front.0 ++ end) text r err
      (e ∙ rw (front.1, ← same) (append_assoc (flat_map f (below k) ++ next) front.0 end)) before
