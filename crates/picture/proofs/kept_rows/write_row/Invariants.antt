use Rattle.std.proofs.Common.{ℕ, ◌+◌, ◌-◌, ◌*◌, ◌<◌, flat_map, take}
use Rattle.device.proofs.Laws.WritingLaws.{HasWritten}
use Rattle.picture.specs.Private.Rows.{piece}
use Rattle.picture.specs.Text.{below}
use Rattle.picture.proofs.kept_rows.write_row.Given as goal

-- the pieces so far were written
abbrev pub invariant-loop-k : goal.invariant-loop-k
invariant-loop-k g l =
    let piece_text = λ (k : ℕ). g.T.PixelText.text (piece (take l.width l.kept) k) in
    record {
      written : HasWritten g.S.Sink l.initial.sink l.sink (flat_map piece_text (below l.k));
      near : 70 * l.k < l.width + 70;
    }

abbrev pub decreases-loop-k : goal.decreases-loop-k
decreases-loop-k g l = l.width - l.k
