use Rattle.std.proofs.Common.{◌≡◌, ◌-◌, ◌≤◌, ℕ, length}
use Rattle.std.specs.Prelude.{false, slice_index_or}
use Rattle.capi.specs.Bitmap.{put_bit_rows}
use Rattle.capi.proofs.bit_rows.put_rows.Given as goal

-- the rows so far were put, and behind a row the dots are light
abbrev pub invariant-loop-y : goal.invariant-loop-y
invariant-loop-y g l =
    let p = g.G.Grid.picture l.picture in
    record {
      inside : l.y ≤ p.height;
      dots : length l.dots ≡ length l.initial.dots;
      light : (x : ℕ) → p.width ≤ x → slice_index_or l.dots x false ≡ false;
      row : length l.row ≡ length l.initial.row;
      rows : l.bits ≡ put_bit_rows p l.stride l.initial.bits l.y;
    }

abbrev pub decreases-loop-y : goal.decreases-loop-y
decreases-loop-y g l = l.height - l.y
