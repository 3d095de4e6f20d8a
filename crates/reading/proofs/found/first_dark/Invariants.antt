use Rattle.std.proofs.Common.{◌≤◌}
use Rattle.reading.specs.Private.{AreLightBefore}
use Rattle.reading.proofs.found.first_dark.Given as goal

-- the rows so far are light, and more of them may be known to be
abbrev pub invariant-loop-y : goal.invariant-loop-y
invariant-loop-y g l = record {
  most : l.y ≤ l.light;
  light : AreLightBefore (g.G.Grid.picture l.dots) l.light;
}
