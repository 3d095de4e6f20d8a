-- How a square of truth values is kept: 64 bits a row.
use Rattle.std.specs.Prelude.{ℕ, ◌^◌, ◌<◌, ◌≡◌, Bool, List, map, length, All}
use Rattle.std.specs.List.{range_with_len}
use Rattle.qrmatrix.specs.Bits.{bit}
use Rattle.qrmatrix.specs.declared.square.TheConstants.{SIDE}

-- the modules of a row, bit 0 first
abbrev pub low_bits : ℕ → List Bool
low_bits w = map (bit w) (range_with_len 0 SIDE)

-- as many rows as a side has modules, and as many bits in each
pub record AreRows (rows : List ℕ) : Type 0 where
  pub count : length rows ≡ SIDE
  pub narrow : All (λ w. w < 2 ^ SIDE) rows
