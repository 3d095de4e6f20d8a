use Rattle.std.proofs.Common.{◌≡◌, ◌<◌, ℕ, length}
use Rattle.qrmatrix.specs.Private.Narrow.{narrow_at}
use Rattle.qrmatrix.specs.Square.{value_at}
use Rattle.qrmatrix.proofs.rows.narrow_rows.Given as goal

abbrev pub invariant-loop-y : goal.invariant-loop-y
invariant-loop-y l = record {
  size : length l.rows ≡ 32;
  same : (x y : ℕ) → x < 32 → y < l.y → narrow_at l.rows x y ≡ value_at l.modules x y;
}
