use Rattle.std.proofs.Common.{◌≡◌, ◌<◌, ◌≤◌, ◌-◌, ℕ, true}
use Rattle.std.specs.List.{list_all, range_with_len}
use Rattle.picture.specs.Text.{below}
use Rattle.reading.specs.Private.{is_row_of_cells}
use Rattle.reading.proofs.sampled.are_cells.Given as goal

-- the rows to come decide; those before `equal` are like the one before, which is of its cells
abbrev pub invariant-loop-y : goal.invariant-loop-y
invariant-loop-y g l =
    let p = g.G.Grid.picture l.dots in
    let test = is_row_of_cells p l.scale l.zone in
    record {
      decide : list_all test (below p.height) ≡ list_all test (range_with_len l.y (p.height - l.y));
      before : 0 < l.y → test (l.y - 1) ≡ true;
      later : l.y < l.equal → 0 < l.y;
      like : (x k : ℕ) → x < p.width → l.y ≤ k → k < l.equal → p.dark x k ≡ p.dark x (l.y - 1);
    }
