use Rattle.std.proofs.Common.{◌≡◌, ◌-◌, drop, length, map}
use Rattle.std.specs.Bool.{beq}
use Rattle.std.specs.Cmp.Lexicographic.{pointwise}
use Rattle.std.specs.List.{range_with_len}
use Rattle.picture.specs.Text.{pixel_row}
use Rattle.reading.proofs.bars.has_row.Given as goal

-- the pixels to come decide
abbrev pub invariant-loop-x : goal.invariant-loop-x
invariant-loop-x g l =
    pointwise beq l.row (pixel_row (g.G.Grid.picture l.grid) l.y)
    ≡ pointwise beq (drop l.x l.row)
    (map (λ x. (g.G.Grid.picture l.grid).dark x l.y) (range_with_len l.x (length l.row - l.x)))
