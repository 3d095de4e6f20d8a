use Rattle.std.proofs.Common.{◌-◌, ◌<◌, ◌≤◌, take}
use Rattle.device.proofs.Laws.WritingLaws.{HasWritten}
use Rattle.picture.specs.Private.Rows.{repeated, row_text}
use Rattle.picture.proofs.kept_rows.write_equal_rows.Given as goal

-- the row was written this many times, and no more than these are repeated next
abbrev pub invariant-loop-written : goal.invariant-loop-written
invariant-loop-written g l =
    let row = row_text g.T.PixelText.text g.T.PixelText.row_end (take l.width l.kept) in
    record {
      some : 0 < l.block;
      known : l.block ≤ l.written;
      few : l.block ≤ l.at_once;
      most : l.written ≤ l.count;
      rows : HasWritten g.S.Sink l.fn.sink l.sink (repeated l.written row);
    }

abbrev pub decreases-loop-written : goal.decreases-loop-written
decreases-loop-written g l = l.count - l.written
