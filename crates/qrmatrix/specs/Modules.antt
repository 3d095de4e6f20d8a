-- The modules of a symbol by their coordinates (ISO/IEC 18004, 7.7 to 7.10).
-- Why: `module_at`, `is_inside`: 7.7 to 7.10 together.
use Rattle.std.specs.Prelude.{ℕ, Bool, ◌&&◌, nat_lt, List, unwrap_or}
use Rattle.std.specs.Bool.{xor}
use Rattle.labelcore.specs.declared.level.Level.{Level}
use Rattle.qrdata.specs.Versions.{side_of}
use Rattle.qrmatrix.specs.Functions.{fixed_module}
use Rattle.qrmatrix.specs.Masks.{is_flipped}
use Rattle.qrmatrix.specs.Placement.{codeword_bit, rank}

-- whether column x and row y are in a square of n by n
abbrev pub is_inside : ℕ → ℕ → ℕ → Bool
is_inside n x y = nat_lt x n && nat_lt y n

-- whether the module at column x and row y of the symbol is dark: a fixed module, else a bit of the codewords under the
-- mask; light outside of the symbol
unfoldable pub module_at : ℕ → Level → ℕ → List ℕ → ℕ → ℕ → Bool
module_at v level mask codewords x y =
    let chosen = xor (is_flipped mask x y) (codeword_bit codewords (rank v x y)) in
    is_inside (side_of v) x y && unwrap_or (fixed_module v level mask x y) chosen
