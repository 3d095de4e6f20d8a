use Rattle.std.proofs.Common.{◌≡◌, ◌+◌, ◌*◌, ◌/◌, ◌%◌, arith, subst}
use Rattle.qrmatrix.specs.Private.Drawing.{IsMaskedTo}
use Rattle.qrmatrix.proofs.mask.write_masked.Goals as goal

pub loop-block-preserved : goal.loop-block-preserved
loop-block-preserved c =
    let block = c.loop-block.block in
    let next : 12 * block + 12 ≡ 12 * (block + 1) = omega arith in
    subst (λ z. IsMaskedTo z c.args.mask c.args.free.now c.args.modules.now c.args.masked.now c.write_rows.new.masked)
    next (c.write_rows.ensures c.args.masked.now c.loop-block.invariant)

pub returns : goal.returns
returns c =
    let n = c.args.side in
    let reached : 12 * c.loop-block.block ≡ n / 12 * 12 = omega arith in
    let end : n / 12 * 12 + n % 12 ≡ n = omega arith in
    subst (λ z. IsMaskedTo z c.args.mask c.args.free.now c.args.modules.now c.args.masked.now c.write_rows-2.new.masked)
    end (c.write_rows-2.ensures c.args.masked.now
    (subst (λ z. IsMaskedTo z c.args.mask c.args.free.now c.args.modules.now c.args.masked.now c.loop-block.masked)
    reached c.loop-block.invariant))
