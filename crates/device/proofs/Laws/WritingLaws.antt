-- A text that is written piece by piece.
-- Most of these lemmas have nine or ten arguments. Two calls have three states, s, t and u, and a text each; the whole
-- text has an equation, since a caller often has another term for it; and r is the caller's own result.
use Rattle.std.proofs.Common.{◌≡◌, ℕ, List, [], ◌++◌, Result, Ok, Err, refl, ap, sym, subst, ◌∙◌, append_assoc}
use Rattle.std.proofs.lemmas.Bool.{false≢true}
use Rattle.std.proofs.lemmas.List.{append-nil}
use Rattle.std.specs.Result.{IsErr}
use Rattle.device.specs.Device.{Begins, Rises, Unflushed}
use Rattle.device.specs.Writing.{WritesText}
use Rattle.device.specs.declared.sink.Sink.{Ghosts}

-- a text was written, and nothing failed so far
pub record HasWritten {S : Type 0} (sink : Ghosts S) (old new : S) (text : List ℕ) : Type 0 where
  pub taken : sink.took old new text
  pub uncounted : sink.failures new ≡ sink.failures old
  pub unflushed : Unflushed (sink.is_flushed old) (sink.is_flushed new)

-- the same of a sink that took nothing
pub HasWritten-none : {S : Type 0} (sink : Ghosts S) (s : S) → sink.took s s [] → HasWritten sink s s []
HasWritten-none sink s none = record { taken = none; uncounted = refl; unflushed = λ e. e }

-- a call that wrote the text
pub HasWritten-call : {S T E : Type 0} {x : T} (sink : Ghosts S) (s t : S) (text : List ℕ)
    → WritesText {E = E} sink s t text (Ok x) → HasWritten sink s t text
HasWritten-call sink s t text w = record { taken = w.bytes; uncounted = w.count; unflushed = w.unflushed }

-- the result of a call whose whole text was written
pub WritesText-whole : {S T E : Type 0} (sink : Ghosts S) (s t : S) (text : List ℕ) (x : T) → HasWritten sink s t text
    → WritesText {E = E} sink s t text (Ok x)
WritesText-whole sink s t text x h = record { bytes = h.taken; count = h.uncounted; unflushed = h.unflushed }

-- the first call fails
pub WritesText-begun : {S T E U F : Type 0} {fault : F} (sink : Ghosts S) (s t : S) (first more text : List ℕ)
    (r : Result T E) → IsErr r → text ≡ first ++ more →
    WritesText {T = U} sink s t first (Err fault) → WritesText sink s t text r
WritesText-begun sink s t first more text (Ok x) err e w = absurd (false≢true err)
WritesText-begun sink s t first more text (Err x) err e w =
    let (front, (rest, whole), taken) = w.bytes in
    let cut = e ∙ (ap (λ (xs : List ℕ). xs ++ more) whole ∙ append_assoc front rest more) in
    record { bytes = (front, (rest ++ more, cut), taken); count = w.count; unflushed = w.unflushed }

module _ {S : Type 0} (sink : Ghosts S) (took_joined : (s t u : S) (xs ys : List ℕ) → sink.took s t xs
    → sink.took t u ys → sink.took s u (xs ++ ys)) where
  -- a call wrote more
  pub HasWritten-more : {T E : Type 0} {x : T} (s t u : S) (front more text : List ℕ) → front ++ more ≡ text
      → HasWritten sink s t front → WritesText {E = E} sink t u more (Ok x) → HasWritten sink s u text
  HasWritten-more s t u front more text e h w = record {
    taken = subst (sink.took s u) e (took_joined s t u front more h.taken w.bytes);
    uncounted = w.count ∙ h.uncounted;
    unflushed = λ m. h.unflushed (w.unflushed m);
  }

  -- a beginning of what follows a text that was written
  Begins-next : (s t u : S) (front more rest text : List ℕ) → text ≡ (front ++ more) ++ rest → sink.took s t front
      → Begins (sink.took t u) more → Begins (sink.took s u) text
  Begins-next s t u front more rest text e h (begun, (left, whole), taken) =
      let cut = e ∙ (ap (λ (xs : List ℕ). (front ++ xs) ++ rest) whole ∙ simp append_assoc) in
      (front ++ begun, (left ++ rest, cut), took_joined s t u front begun h taken)

  -- a call fails after a text was written
  pub WritesText-fails : {T E U F : Type 0} {fault : F} (s t u : S) (front more rest text : List ℕ) (r : Result T E)
      → IsErr r → text ≡ (front ++ more) ++ rest →
      HasWritten sink s t front → WritesText {T = U} sink t u more (Err fault) → WritesText sink s u text r
  WritesText-fails s t u front more rest text (Ok x) err e h w = absurd (false≢true err)
  WritesText-fails s t u front more rest text (Err x) err e h w = record {
    bytes = Begins-next s t u front more rest text e h.taken w.bytes;
    count = subst (λ (n : ℕ). Rises n (sink.failures u)) h.uncounted w.count;
    unflushed = λ m. h.unflushed (w.unflushed m);
  }

  -- the last call, after a text was written
  pub WritesText-last : {T E : Type 0} (s t u : S) (front more text : List ℕ) (r : Result T E) → front ++ more ≡ text →
      HasWritten sink s t front → WritesText sink t u more r → WritesText sink s u text r
  WritesText-last s t u front more text (Ok x) e h w =
      WritesText-whole sink s u text x (HasWritten-more s t u front more text e h w)
  WritesText-last s t u front more text (Err x) e h w =
      WritesText-fails s t u front more [] text (Err x) refl (sym e ∙ sym (append-nil (front ++ more))) h w
