use Rattle.std.proofs.Common.{◌≡◌, ◌-◌, ◌*◌, ℕ}
use Rattle.std.specs.List.{list_all, range_with_len}
use Rattle.picture.specs.Text.{below}
use Rattle.reading.specs.Private.{is_of_cell}
use Rattle.reading.proofs.sampled.is_row_of_cells.Given as goal

-- the cells to come decide
abbrev pub invariant-loop-column : goal.invariant-loop-column
invariant-loop-column g l =
    let p = g.G.Grid.picture l.dots in
    let test = λ (x : ℕ). is_of_cell p l.scale l.zone x l.y in
    list_all test (below p.width) ≡ list_all test (range_with_len (l.column * l.scale) (p.width - l.column * l.scale))
