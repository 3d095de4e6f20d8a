use Rattle.std.proofs.Common.{ℕ, flat_map}
use Rattle.device.proofs.Laws.WritingLaws.{HasWritten}
use Rattle.picture.specs.Private.Rows.{piece}
use Rattle.picture.specs.Text.{below, pixel_row}
use Rattle.picture.proofs.wide_rows.write_wide_row.Given as goal

-- the pieces so far were written
abbrev pub invariant-loop-k : goal.invariant-loop-k
invariant-loop-k g l =
    let piece_text = λ (k : ℕ). g.T.PixelText.text (piece (pixel_row (g.G.Grid.picture l.grid) l.y) k) in
    record { written : HasWritten g.S.Sink l.initial.sink l.sink (flat_map piece_text (below l.k)) }
