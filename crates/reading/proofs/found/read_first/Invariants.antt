use Rattle.std.proofs.Common.{◌≡◌, drop}
use Rattle.reading.specs.Found.{first_some, symbologies}
use Rattle.reading.specs.Private.{reading_from}
use Rattle.reading.proofs.found.read_first.Given as goal

-- those that are tried already read nothing
abbrev pub invariant-loop-place : goal.invariant-loop-place
invariant-loop-place g l =
    let ask = reading_from l.turns (g.G.Grid.picture l.dots) l.first.x l.first.y in
    first_some ask symbologies ≡ first_some ask (drop l.place symbologies)
