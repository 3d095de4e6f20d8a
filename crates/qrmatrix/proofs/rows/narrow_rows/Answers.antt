use Rattle.std.proofs.Common.{◌≡◌, ◌&&◌, ◌∙◌, Bool, true, false, inl, inr, ap, arith, refl, length-set}
use Rattle.std.proofs.Common.{get_or-set_other, get_or-set_same}
use Rattle.std.specs.Prelude.{bit_and}
use Rattle.std.proofs.lemmas.Bool.{cases_eq, lt-ltb}
use Rattle.qrmatrix.specs.Bits.{bit}
use Rattle.qrmatrix.proofs.Laws.RowBitsLaws.{and_bit, low_bit}
use Rattle.qrmatrix.proofs.rows.narrow_rows.Goals as goal

and_true : (b : Bool) → (b && true) ≡ b
and_true true = refl
and_true false = refl

pub loop-y-preserved : goal.loop-y-preserved
loop-y-preserved c =
    let rows = c.loop-y.rows in
    let at = c.loop-y.y in
    let w = c.row.result in
    let before = c.loop-y.invariant in
    record {
      size = length-set rows at (bit_and w 4294967295) ∙ before.size;
      same = λ x y lx ly. elim (cases_eq y at) [
        | inl e ↦
            let one : bit 4294967295 x ≡ true = low_bit 32 x ∙ lt-ltb x 32 lx in
            rw e (ap (λ z. bit z x) (get_or-set_same rows at (bit_and w 4294967295) 0 (omega (arith, before.size)))
            ∙ and_bit w 4294967295 x ∙ ap (λ b. bit w x && b) one ∙ and_true (bit w x) ∙ c.row.ensures.bits x)
        | inr ne ↦
            ap (λ z. bit z x) (get_or-set_other rows at y (bit_and w 4294967295) 0 ne)
            ∙ before.same x y lx (omega (arith, ne))
      ];
    }

pub returns : goal.returns
returns c = λ x y lx ly. c.loop-y.invariant.same x y lx (omega arith)
