use Rattle.std.proofs.Common.{◌≡◌, ◌-◌, ◌≤◌, ℕ, flat_map, length}
use Rattle.device.proofs.Laws.WritingLaws.{HasWritten}
use Rattle.picture.specs.Private.Rows.{row_text}
use Rattle.picture.specs.Text.{below, pixel_row}
use Rattle.picture.proofs.kept_rows.write_kept_rows.Given as goal

-- the rows so far were written
abbrev pub invariant-loop-y : goal.invariant-loop-y
invariant-loop-y g l =
    let p = g.G.Grid.picture l.grid in
    let row = λ (y : ℕ). row_text g.T.PixelText.text g.T.PixelText.row_end (pixel_row p y) in
    record {
      inside : l.y ≤ p.height;
      size : length l.kept ≡ length l.initial.kept;
      written : HasWritten g.S.Sink l.initial.sink l.sink (flat_map row (below l.y));
    }

abbrev pub decreases-loop-y : goal.decreases-loop-y
decreases-loop-y g l = l.height - l.y
