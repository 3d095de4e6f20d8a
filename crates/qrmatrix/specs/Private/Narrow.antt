-- The rows of the small symbols, 32 bits each.
use Rattle.std.specs.Prelude.{ℕ, Bool, List, slice_index}
use Rattle.qrmatrix.specs.Bits.{bit}

-- the module at a column and a row
abbrev pub narrow_at : List ℕ → ℕ → ℕ → Bool
narrow_at rows x y = bit (slice_index rows y) x
