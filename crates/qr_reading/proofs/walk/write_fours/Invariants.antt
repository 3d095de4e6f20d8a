use Rattle.std.proofs.Common.{◌≡◌, ◌+◌, ◌<◌, ℕ, length, true}
use Rattle.qrmatrix.specs.Square.{value_at}
use Rattle.qr_reading.specs.Private.Walking.{module_in}
use Rattle.qr_reading.proofs.walk.write_fours.Given as goal

-- the rows so far are written
abbrev pub invariant-loop-y : goal.invariant-loop-y
invariant-loop-y l = record {
  count : length l.fours ≡ 57;
  written : (x y : ℕ) → y < l.y → module_in l.fours x y ≡ true → (k : ℕ) → k < 4 → value_at l.free x (y + k) ≡ true;
}
