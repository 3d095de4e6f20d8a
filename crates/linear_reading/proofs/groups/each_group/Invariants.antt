use Rattle.std.proofs.Common.{◌≡◌, ◌≤◌, ◌-◌, ◌*◌, Bool, List, Option, length}
use Rattle.linear.specs.Modules.{each_group}
use Rattle.linear_reading.specs.Private.Groups.{Finds}
use Rattle.linear_reading.proofs.GroupReadingLaws.{with_groups}
use Rattle.linear_reading.proofs.groups.each_group.Given as goal

-- what is found so far and in the groups to come is what is found in all
abbrev pub invariant-loop-group : goal.invariant-loop-group
invariant-loop-group g l = record {
  count : length l.ys.items ≡ l._group;
  groups : l.width * (l.count - l._group) ≤ length l.rest;
  all : (rule : List Bool → Option g.row.Y.Denot) → Finds g.F.Fn l.found l.width rule
      → with_groups rule l.width l.ys.items (l.count - l._group) l.rest ≡ each_group rule l.width l.count l.modules;
}
