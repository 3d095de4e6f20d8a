use Rattle.std.proofs.Common.{◌≡◌, ◌+◌, ◌%◌, arith, subst}
use Rattle.std.proofs.lemmas.Nat.{and_le_r, xor_lt}
use Rattle.qrmatrix.specs.Private.Drawing.{IsMaskedTo}
use Rattle.qrmatrix.proofs.MaskLaws.{masked_more, row_masked}
use Rattle.qrmatrix.proofs.mask.write_rows.Goals as goal

pub put-requires-clause-row_bits : goal.put-requires-clause-row_bits
put-requires-clause-row_bits c =
    let free = and_le_r c.mask_row_bits.result c.row.result in
    xor_lt 57 c.row-in-loop-place.result _ c.row-in-loop-place.ensures.bound (omega (arith, c.row.ensures.bound))

pub loop-place-preserved : goal.loop-place-preserved
loop-place-preserved c =
    λ start before.
    let first = c.args.first in
    let place = c.loop-place.place in
    let mask = c.args.mask in
    let free = c.args.free.now in
    let modules = c.args.modules.now in
    let at : (first + place) % 12 ≡ place = omega arith in
    let next : first + place + 1 ≡ first + (place + 1) = omega arith in
    subst (λ z. IsMaskedTo z mask free modules start c.put.new.self) next
    (masked_more (first + place) mask _ free modules start c.loop-place.masked c.put.new.self
    (c.loop-place.invariant start before) c.put.ensures
    (row_masked mask c.mask_row_bits.result (first + place) free modules c.row.result c.row-in-loop-place.result
    c.row.ensures.bound (λ x l. c.mask_row_bits.ensures x (first + place) l (omega arith) at) c.row.ensures.bits
    c.row-in-loop-place.ensures.bits))

pub returns : goal.returns
returns c =
    λ start before.
    let end : c.loop-place.place ≡ c.args.count = omega arith in
    subst (λ z. IsMaskedTo (c.args.first + z) c.args.mask c.args.free.now c.args.modules.now start c.loop-place.masked)
    end (c.loop-place.invariant start before)
