use Rattle.std.proofs.Common.{◌≡◌, ◌*◌, length, take, drop, flat_map}
use Rattle.picture.specs.Text.{below, pixel_row}
use Rattle.capi.proofs.symbol.put_grid.Given as goal

-- the rows so far were put, and what is after all rows is as it was
abbrev pub invariant-loop-y : goal.invariant-loop-y
invariant-loop-y g l =
    let p = g.G.Grid.picture l.grid in
    record {
      place : l.at ≡ l.y * p.width;
      size : length l.modules ≡ length l.initial.modules;
      rows : take l.at l.modules ≡ flat_map (pixel_row p) (below l.y);
      rest : drop (p.width * p.height) l.modules ≡ drop (p.width * p.height) l.initial.modules;
    }
