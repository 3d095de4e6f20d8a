use Rattle.std.proofs.Common.{◌≡◌, ◌+◌, ◌-◌, ◌*◌, ◌<◌, ℕ, List, sym, ap, ◌∙◌, arith, drop, get_or, inl, inr}
use Rattle.std.specs.Prelude.{slice_range}
use Rattle.std.proofs.lemmas.Bool.{cases_eq, not-false}
use Rattle.std.proofs.lemmas.List.{get_or-take, get_or-drop}
use Rattle.std.proofs.lemmas.Slice.Eq.{bytes_eq-Decides}
use Rattle.reading.proofs.equal_rows.equal_rows.Goals as goal

byte_at : (bytes : List ℕ) (place size x : ℕ) → x < size
    → get_or (slice_range bytes place (place + size)) x 0 ≡ get_or bytes (place + x) 0
byte_at bytes place size x inside =
    let long : place + size - place ≡ size = omega arith in
    rw long (get_or-take size (drop place bytes) x 0 inside ∙ get_or-drop place bytes x 0)

pub loop-k-preserved : goal.loop-k-preserved
loop-k-preserved c k x early inside =
    let bytes = c.args.bytes.now in
    let size = c.args.size in
    let next = c.args.place + c.loop-k.k * c.args.stride in
    let same = (bytes_eq-Decides _ _).0 (not-false _ (sym c.ne.ensures ∙ c.if-ne.false)) in
    elim (cases_eq k c.loop-k.k) [
      | inl here ↦ rw here (sym (byte_at bytes next size x inside) ∙ ap (λ (row : List ℕ). get_or row x 0) (sym same)
          ∙ byte_at bytes c.args.place size x inside)
      | inr other ↦ c.loop-k.invariant k x (omega (arith, early, other)) inside
    ]
