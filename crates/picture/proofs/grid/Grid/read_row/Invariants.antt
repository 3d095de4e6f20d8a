use Rattle.std.proofs.Common.{◌≡◌, ◌<◌, ℕ, false}
use Rattle.std.proofs.Math.ListN.{get_or}
use Rattle.picture.proofs.grid.Grid.read_row.Given as goal

-- the pixels so far
abbrev pub invariant-loop-x : goal.invariant-loop-x
invariant-loop-x g l = (k : ℕ) → k < l.x → get_or l.pixels k false ≡ (g.Self.Grid.picture l.self).dark k l.y
