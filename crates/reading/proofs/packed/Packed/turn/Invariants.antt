use Rattle.std.proofs.Common.{◌≡◌, ◌<◌, ◌*◌, ◌-◌, ◌&&◌, ℕ, length, get_or, slice_index}
use Rattle.std.specs.Prelude.{nat_lt}
use Rattle.qrmatrix.specs.Bits.{bit}
use Rattle.reading.proofs.packed.Packed.turn.Given as goal

-- the rows so far are written
abbrev pub invariant-loop-block : goal.invariant-loop-block
invariant-loop-block l = record {
  count : length l.rows ≡ 57;
  written : (x y : ℕ) → y < 4 * l.block → bit (get_or l.rows y 0) x
      ≡ (nat_lt x l.fn.self.side && bit (slice_index l.fn.self.rows (l.fn.self.side - 1 - x)) y);
}

abbrev pub invariant-loop-y : goal.invariant-loop-y
invariant-loop-y l = record {
  count : length l.rows ≡ 57;
  written : (x y : ℕ) → y < l.y → bit (get_or l.rows y 0) x
      ≡ (nat_lt x l.fn.self.side && bit (slice_index l.fn.self.rows (l.fn.self.side - 1 - x)) y);
}
