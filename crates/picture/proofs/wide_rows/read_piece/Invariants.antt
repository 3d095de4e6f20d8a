use Rattle.std.proofs.Common.{◌≡◌, ◌+◌, ◌<◌, ℕ, false}
use Rattle.std.proofs.Math.ListN.{get_or}
use Rattle.picture.proofs.wide_rows.read_piece.Given as goal

-- the pixels so far
abbrev pub invariant-loop-i : goal.invariant-loop-i
invariant-loop-i g l = (k : ℕ) → k < l.i → get_or l.pixels k false ≡ (g.G.Grid.picture l.grid).dark (l.x + k) l.y
