use Rattle.reading.specs.Private.{IsLightBefore}
use Rattle.reading.proofs.found.first_of_row.Given as goal

-- the dots so far are light
abbrev pub invariant-loop-x : goal.invariant-loop-x
invariant-loop-x g l = IsLightBefore (g.G.Grid.picture l.dots) l.x l.y
