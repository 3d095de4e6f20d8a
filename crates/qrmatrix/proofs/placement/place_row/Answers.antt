use Rattle.std.proofs.Common.{◌∙◌, ◌+◌, ◌<◌, arith, refl, ap, sym}
use Rattle.qrmatrix.specs.Bits.{bit}
use Rattle.qrmatrix.proofs.Laws.RowBitsLaws.{two_bits}
use Rattle.std.proofs.lemmas.Bool.Decides.{nat_tests}
use Rattle.qrmatrix.proofs.CursorLaws.{row_placed}
use Rattle.qrmatrix.proofs.Laws.RowBitsLaws.{up_narrow}
use Rattle.qrmatrix.proofs.placement.place_row.Goals as goal

pub flip-requires-clause-row_bits : goal.flip-requires-clause-row_bits
flip-requires-clause-row_bits c = up_narrow c.bits_for_pair.result 2 c.args.x c.bits_for_pair.ensures.bound (omega arith)

pub returns-clause-placed : goal.returns-clause-placed
returns-clause-placed c =
    λ strip t codewords i ex ey lt has.
    let two = c.pair_at-free_pair in
    row_placed strip c.args.free.now c.args.modules.now c.flip.new.self codewords i t two.result c.bits_for_pair.result
    c.args.bits lt (rw (← ex) c.requires.0) two.ensures.bound c.bits_for_pair.ensures.bound c.bits_for_pair.ensures.value has
    (two.ensures.high ∙ c.row.ensures.bits (c.args.x + 1) ∙ rw (ex, ey) refl)
    (two.ensures.low ∙ c.row.ensures.bits c.args.x ∙ rw (ex, ey) refl) (λ a b. c.flip.ensures a b ∙ rw (ex, ey) refl)

pub returns-then-free_pair-eq0-clause-placed : goal.returns-then-free_pair-eq0-clause-placed
returns-then-free_pair-eq0-clause-placed c =
    λ strip t codewords i ex ey lt has.
    let two = c.pair_at-free_pair in
    let none = c.if-free_pair-eq0.true in
    let inside : strip.x + 1 < 57 = rw (← ex) c.requires.0 in
    row_placed strip c.args.free.now c.args.modules.now c.args.modules.now codewords i t 0 0 c.args.bits lt
    inside (omega arith) (omega arith) (record { right = refl; left = refl }) has
    (ap (λ z. bit z 1) (sym none) ∙ two.ensures.high ∙ c.row.ensures.bits (c.args.x + 1) ∙ rw (ex, ey) refl)
    (ap (λ z. bit z 0) (sym none) ∙ two.ensures.low ∙ c.row.ensures.bits c.args.x ∙ rw (ex, ey) refl)
    (λ a b. rw (two_bits 0 strip.x a (omega arith) (omega arith)) (grind (arith, nat_tests)))
