use Rattle.std.proofs.Common.{◌≡◌, ◌-◌, ◌≤◌, ◌++◌, drop, length}
use Rattle.qrdata.specs.Fewest.{chosen_segments}
use Rattle.qrdata.specs.Segments.{cost}
use Rattle.qrdata.proofs.plan.plan_of.Given as goal

-- what is read and the best list of the rest are the best list, and that of the rest is no longer
abbrev pub invariant-loop-place : goal.invariant-loop-place
invariant-loop-place l =
    (l.segments.items ++ chosen_segments l.version (drop l.place l.bytes) ≡ chosen_segments l.version l.bytes)
    × (l.place ≤ length l.bytes)
    × (cost l.version (chosen_segments l.version (drop l.place l.bytes)) ≤ l.bits)

abbrev pub decreases-loop-place : goal.decreases-loop-place
decreases-loop-place l = length l.bytes - l.place
