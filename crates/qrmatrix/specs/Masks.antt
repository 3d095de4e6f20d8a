-- The eight mask patterns (ISO/IEC 18004, 7.8.2 and Table 10).
-- Why: `is_flipped`: 7.8.2, table 10.
use Rattle.std.specs.Prelude.{ℕ, ◌+◌, ◌*◌, ◌/◌, ◌%◌, Bool, ◌==◌, [], ◌∷◌, slice_index}

-- whether a mask flips a free module at column j and row i: where the value of its formula is 0
unfoldable pub is_flipped : ℕ → ℕ → ℕ → Bool
is_flipped mask j i =
    slice_index (
    ((i + j) % 2)
    ∷ (i % 2)
    ∷ (j % 3)
    ∷ ((i + j) % 3)
    ∷ ((i / 2 + j / 3) % 2)
    ∷ ((i * j) % 2 + (i * j) % 3)
    ∷ (((i * j) % 2 + (i * j) % 3) % 2)
    ∷ (((i + j) % 2 + (i * j) % 3) % 2)
    ∷ []) mask == 0
