use Rattle.std.proofs.Common.{◌≡◌, ◌<◌, ℕ, length}
use Rattle.qr_reading.specs.Private.Walking.{module_in, unmasked}
use Rattle.qr_reading.proofs.walk.write_unmasked.Given as goal

-- the rows so far are written
abbrev pub invariant-loop-y : goal.invariant-loop-y
invariant-loop-y l = record {
  count : length l.modules ≡ 57;
  written : (x y : ℕ) → x < 57 → y < l.y → module_in l.modules x y ≡ unmasked l.rows l.mask x y;
}
