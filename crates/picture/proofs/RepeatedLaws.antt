-- A text that is written many times.
use Rattle.std.proofs.Common.{◌≡◌, ℕ, suc, zero, ◌+◌, ◌-◌, ◌*◌, ◌<◌, ◌≤◌, Bool, true, List, ◌++◌, Ok, refl, ap, sym}
use Rattle.std.proofs.Common.{subst, ◌∙◌, arith, flat_map, length, length-append, take}
use Rattle.std.specs.List.{range_with_len}
use Rattle.std.proofs.lemmas.Bool.{false≢true}
use Rattle.std.proofs.lemmas.List.{length-take-le}
use Rattle.device.specs.Sink.{RepeatsBytes}
use Rattle.device.specs.Writing.{WritesText}
use Rattle.device.specs.declared.sink.Sink.{Ghosts}
use Rattle.picture.specs.Private.Rows.{EndsWith, repeated}
use Rattle.picture.proofs.Laws.WritingLaws.{flat_map-below_add, flat_map-below_suc}

-- one text for each of n numbers, from a or from y on
pub same_texts : (f : ℕ → List ℕ) (text : List ℕ) (a y n : ℕ) → ((k : ℕ) → y ≤ k → k < y + n → text ≡ f k)
    → flat_map (λ _. text) (range_with_len a n) ≡ flat_map f (range_with_len y n)
same_texts f text a y zero same = refl
same_texts f text a y (suc n) same =
    rw (← same y (omega arith) (omega arith)) (ap (λ (t : List ℕ). text ++ t)
    (same_texts f text (a + 1) (y + 1) n (λ k low high. same k (omega arith) (omega arith))))

pub repeated-add : (text : List ℕ) (n m : ℕ) → repeated (n + m) text ≡ repeated n text ++ repeated m text
repeated-add text n m = flat_map-below_add (λ _. text) n m
    ∙ ap (λ (t : List ℕ). repeated n text ++ t) (sym (same_texts (λ _. text) text 0 n m (λ k low high. refl)))

pub length-repeated : (text : List ℕ) (n : ℕ) → length (repeated n text) ≡ n * length text
length-repeated text zero = omega arith
length-repeated text (suc n) =
    rw (flat_map-below_suc (λ _. text) n) (simp length-append (omega (arith, length-repeated text n)))

-- the rows of a width have texts of one length
pub length-repeated_row : (text : List Bool → List ℕ) (kept : List Bool) (width count len : ℕ) → width ≤ length kept
    → ((row : List Bool) → length row ≡ width → length (text row) ≡ len)
    → length (repeated count (text (take width kept))) ≡ count * len
length-repeated_row text kept width count len fits each = rw (length-repeated (text (take width kept)) count)
    (ap (λ (n : ℕ). count * n) (each (take width kept) (length-take-le width kept fits)))

-- a text that was written n times was written m times last
pub EndsWith-repeated : {S : Type 0} (took : S → S → List ℕ → Type 0) (s t : S) (text : List ℕ) (n m : ℕ) → m ≤ n
    → took s t (repeated n text) → EndsWith took t (repeated m text)
EndsWith-repeated took s t text n m few h =
    let parts : n ≡ (n - m) + m = omega arith in
    record {
      first = s;
      before = repeated (n - m) text;
      whole = subst (took s t) (ap (λ (k : ℕ). repeated k text) parts ∙ repeated-add text (n - m) m) h;
    }

-- a repeat writes what the sink took last
pub WritesText-repeated : {S T E : Type 0} (sink : Ghosts S) (s t : S) (text : List ℕ) (size : ℕ) (r : Bool) (x : T)
    → r ≡ true → length text ≡ size → EndsWith sink.took s text
    → RepeatsBytes sink.failures sink.is_flushed sink.took s t size r → WritesText {E = E} sink s t text (Ok x)
WritesText-repeated sink s t text size r x done whole last h = record {
  bytes = h.bytes done last.first last.before text whole last.whole;
  count = h.count;
  unflushed = λ flushed. absurd (false≢true (sym (h.flushed done) ∙ flushed));
}
