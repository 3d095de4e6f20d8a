use Rattle.std.proofs.Common.{◌≡◌, ◌<◌, ◌&&◌, ℕ, length, get_or}
use Rattle.std.specs.Prelude.{nat_lt}
use Rattle.qrmatrix.specs.Bits.{bit}
use Rattle.reading.proofs.packed.Packed.of.Given as goal

-- the rows so far are written
abbrev pub invariant-loop-y : goal.invariant-loop-y
invariant-loop-y g l = record {
  count : length l.rows ≡ 57;
  written : (x y : ℕ) → y < l.y → bit (get_or l.rows y 0) x
      ≡ (nat_lt x (g.G.Grid.picture l.modules).width && (g.G.Grid.picture l.modules).dark x y);
}
