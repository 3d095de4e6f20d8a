use Rattle.std.proofs.Common.{ℕ, flat_map}
use Rattle.device.proofs.Laws.WritingLaws.{HasWritten}
use Rattle.picture.specs.Private.Rows.{row_text}
use Rattle.picture.specs.Text.{below, pixel_row}
use Rattle.picture.proofs.wide_rows.write_wide_rows.Given as goal

-- the rows so far were written
abbrev pub invariant-loop-y : goal.invariant-loop-y
invariant-loop-y g l =
    let row = λ (y : ℕ). row_text g.T.PixelText.text g.T.PixelText.row_end (pixel_row (g.G.Grid.picture l.grid) y) in
    record { written : HasWritten g.S.Sink l.initial.sink l.sink (flat_map row (below l.y)) }
