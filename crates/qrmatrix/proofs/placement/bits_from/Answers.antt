use Rattle.std.proofs.Common.{◌≡◌, ◌/◌, subst, arith}
use Rattle.qrmatrix.proofs.TwoBitsLaws.{HasCodewords, word_from}
use Rattle.qrmatrix.proofs.placement.bits_from.Goals as goal

pub returns : goal.returns
returns c =
    let all : c.loop-j.j ≡ 8 = omega arith in
    word_from c.loop-j.bits c.args.i c.args.bytes.now
    (subst (HasCodewords c.loop-j.bits c.args.bytes.now (c.args.i / 8)) all c.loop-j.invariant)
