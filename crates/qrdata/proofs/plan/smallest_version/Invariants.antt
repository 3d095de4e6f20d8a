use Rattle.qrdata.specs.Private.SmallestPlan.{HaveNoRoom}
use Rattle.qrdata.proofs.plan.smallest_version.Given as goal

-- no version before has room
abbrev pub invariant-loop-number : goal.invariant-loop-number
invariant-loop-number l = HaveNoRoom l.fn.lowest l.number l.level l.bits
