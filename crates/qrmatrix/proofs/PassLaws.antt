-- How far a pass over a square has come, row by row.
use Rattle.std.proofs.Common.{◌≡◌, ℕ, ◌+◌, ◌∙◌, arith, Bool, ◌&&◌, List, inl, inr}
use Rattle.std.specs.Prelude.{◌==◌, nat_lt}
use Rattle.std.proofs.lemmas.Bool.{cases_eq}
use Rattle.std.proofs.lemmas.Bool.Decides.{nat_tests}
use Rattle.qrmatrix.specs.Bits.{bit}
use Rattle.qrmatrix.specs.Private.Squares.{flip_if}
use Rattle.qrmatrix.specs.Square.{value_at}

-- in the rows before `row` the places that pass the test are turned over
abbrev pub TurnedTo : ℕ → (ℕ → ℕ → Bool) → List (List Bool) → List (List Bool) → Type 0
TurnedTo row test old new = (x y : ℕ) → value_at new x y ≡ flip_if (nat_lt y row && test x y) (value_at old x y)

-- one more row is turned over
pub row_turned : (row w : ℕ) (test : ℕ → ℕ → Bool) (old m new : List (List Bool)) → TurnedTo row test old m
    → ((x y : ℕ) → value_at new x y ≡ flip_if ((y == row) && bit w x) (value_at m x y))
    → ((x : ℕ) → bit w x ≡ test x row) → TurnedTo (row + 1) test old new
row_turned row w test old m new before flipped is x y =
    flipped x y ∙ elim (cases_eq y row) [
      | inl e ↦ rw (is x, before x y, e) (grind (arith, nat_tests))
      | inr ne ↦ rw (before x y) (grind (arith, nat_tests))
    ]
