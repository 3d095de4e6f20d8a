use Rattle.std.proofs.Common.{arith}
use Rattle.std.proofs.lemmas.List.{drop_all, drop_more}
use Rattle.qrdata.proofs.plan.are_digits.Goals as goal

pub loop-byte-preserved : goal.loop-byte-preserved
loop-byte-preserved c =
    let next = drop_more c.args.bytes.now c.loop-byte.byte-index 0 c.loop-byte-test.true in
    let digit = rw next at c.loop-byte.invariant in
    grind (arith, digit)

pub returns : goal.returns
returns c =
    let none = rw (drop_all c.loop-byte.byte-index c.args.bytes.now c.loop-byte-test.false) at c.loop-byte.invariant in
    grind (arith, none)
