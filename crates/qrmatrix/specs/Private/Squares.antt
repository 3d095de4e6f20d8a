-- What an operation changes of a square of truth values.
use Rattle.std.specs.Prelude.{◌≡◌, ◌≤◌, ℕ, Bool, true, false, not, List}
use Rattle.qrmatrix.specs.Modules.{is_inside}
use Rattle.qrmatrix.specs.Square.{value_at}
use Rattle.qrmatrix.specs.declared.square.TheConstants.{SIDE}

-- the value, or the other one where the test passes
abbrev pub flip_if : Bool → Bool → Bool
flip_if true b = not b
flip_if false b = b

-- no value outside of n columns and rows is true
abbrev pub IsWithin : ℕ → List (List Bool) → Type 0
IsWithin n rows = (x y : ℕ) → is_inside n x y ≡ false → value_at rows x y ≡ false

-- the places outside n columns and rows are as they were
pub record SameOutside (n : ℕ) (old new : List (List Bool)) : Type 0 where
  pub columns : (x y : ℕ) → n ≤ x → value_at new x y ≡ value_at old x y
  pub rows : (x y : ℕ) → n ≤ y → value_at new x y ≡ value_at old x y

-- no value is true
abbrev pub IsBlank : List (List Bool) → Type 0
IsBlank rows = (x y : ℕ) → value_at rows x y ≡ false

-- a side has at least the eleven modules of a finder pattern with four light ones, and at most those of version 10
abbrev pub IsSide : ℕ → Type 0
IsSide n = (11 ≤ n) × (n ≤ SIDE)
