use Rattle.std.proofs.Common.{◌≡◌, ◌∙◌, arith, ℕ, inl, inr, ◌&&◌}
use Rattle.std.specs.Prelude.{bit_and, nat_lt}
use Rattle.std.specs.Int.{bit_not, w64}
use Rattle.std.proofs.lemmas.Bool.{cases_lt}
use Rattle.std.proofs.lemmas.Bool.Decides.{nat_tests}
use Rattle.std.proofs.lemmas.Nat.{and_le_l}
use Rattle.qrmatrix.specs.Bits.{bit}
use Rattle.qrdata.specs.Versions.{side_of}
use Rattle.qrmatrix.specs.Private.Drawing.{unmasked_module}
use Rattle.qrmatrix.specs.Functions.{is_free, role}
use Rattle.qrmatrix.proofs.Laws.FunctionRowLaws.{fits}
use Rattle.qrmatrix.proofs.PassLaws.{row_turned}
use Rattle.qrmatrix.proofs.Laws.RowBitsLaws.{above_bit, and_bit, not_bit}
use Rattle.qrmatrix.proofs.unmasked.draw_functions.Goals as goal

pub loop-y-init : goal.loop-y-init
loop-y-init c = record {
  free = λ x y. grind (arith, nat_tests);
  modules = λ x y. grind (arith, nat_tests);
}

pub flip-requires-clause-row_bits : goal.flip-requires-clause-row_bits
flip-requires-clause-row_bits c =
    omega (arith, c.low_ones.ensures.bound, and_le_l c.low_ones.result (bit_not w64 c.function_row-row.result.taken))

pub flip-requires-in-loop-y-clause-row_bits : goal.flip-requires-in-loop-y-clause-row_bits
flip-requires-in-loop-y-clause-row_bits c = fits c.args.version c.function_row-row.result.dark c.side-side.ensures.known.1
    c.function_row-row.ensures.narrow_dark

pub loop-y-preserved : goal.loop-y-preserved
loop-y-preserved c =
    let v = c.args.version in
    let n = c.side-side.result in
    let width = c.side-side.ensures.value in
    let y = c.loop-y.y in
    let row = c.function_row-row.result in
    let has = c.function_row-row.ensures in
    let low = c.low_ones.result in
    let is_free_at : (x : ℕ) → bit (bit_and low (bit_not w64 row.taken)) x ≡ (nat_lt x n && is_free v x y) =
    λ x. elim (cases_lt x n) [
      | inl l ↦ rw (
        and_bit low (bit_not w64 row.taken) x,
        c.low_ones.ensures.bits x,
        not_bit row.taken x (omega arith) (omega arith),
        has.taken x (omega arith),
      ) (grind (arith, nat_tests))
      | inr g ↦ rw (and_bit low (bit_not w64 row.taken) x, c.low_ones.ensures.bits x) (grind (arith, nat_tests))
    ] in
    let is_dark_at : (x : ℕ) → bit row.dark x ≡ (nat_lt x n && unmasked_module v (role v x y)) =
    λ x. elim (cases_lt x n) [
      | inl l ↦ rw (has.dark x (omega arith)) (grind (arith, nat_tests))
      | inr g ↦ rw (above_bit row.dark (side_of v) x has.narrow_dark (omega arith)) (grind (arith, nat_tests))
    ] in
    record {
      free = row_turned y _ (λ x y. nat_lt x n && is_free v x y) c.args.free.now c.loop-y.free c.flip.new.self
          c.loop-y.invariant.free (λ x y. c.flip.ensures x y) is_free_at;
      modules = row_turned y row.dark (λ x y. nat_lt x n && unmasked_module v (role v x y)) c.args.modules.now
          c.loop-y.modules c.flip-in-loop-y.new.self c.loop-y.invariant.modules (λ x y. c.flip-in-loop-y.ensures x y)
          is_dark_at;
    }

pub returns : goal.returns
returns c =
    let n = c.side-side.result in
    let width = c.side-side.ensures.value in
    let free = c.loop-y.invariant.free in
    let modules = c.loop-y.invariant.modules in
    record {
      marked = record {
        inside = λ x y lx ly. free x y ∙ rw (c.requires.0 x y) (grind (arith, nat_tests));
        outside = λ x y l. free x y ∙ rw (c.requires.0 x y) (grind (arith, nat_tests));
      };
      drawn = λ x y lx ly. modules x y ∙ rw (c.requires.1 x y) (grind (arith, nat_tests));
      outside = record {
        columns = λ x y l. modules x y ∙ grind (arith, nat_tests);
        rows = λ x y l. modules x y ∙ grind (arith, nat_tests);
      };
    }
