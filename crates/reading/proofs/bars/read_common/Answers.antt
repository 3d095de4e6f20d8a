use Rattle.std.proofs.Common.{◌≡◌, Some, sym, ap, ◌∙◌, arith, option_map}
use Rattle.linear_reading.specs.Reading.{read_row}
use Rattle.reading.proofs.DotLaws.{rest_decides}
use Rattle.reading.proofs.WidthLaws.{test_after, told_if}
use Rattle.reading.proofs.bars.read_common.Goals as goal

pub returns : goal.returns
returns g c =
    let row = c.read_row.new.pixels in
    let common = rest_decides (g.G.Grid.picture c.args.grid.now) c.equal_rows.result row
    (omega (arith, c.height.ensures, c.if-height-eq0.false)) c.read_row.ensures c.equal_rows.ensures in
    let read : read_row g.L.Linear.reading row ≡ Some c.in_ok-full.full.items =
    sym c.read.ensures ∙ ap (option_map (λ full. full.items)) c.in_ok-full.was in
    rw (c.then_some.ensures, common, c.have_row.ensures, test_after (read_row g.L.Linear.reading) row, read)
    (told_if (λ full. full.items) c.in_ok-full.full _)
