-- The walk over the modules, row by row of each strip (ISO/IEC 18004, 7.7.3).
use Rattle.std.specs.Prelude.{◌≡◌, ◌<◌, ℕ, ◌+◌, ◌*◌, Bool, false, true, List, [], ◌∷◌, ◌++◌, if◌then◌else◌}
use Rattle.std.specs.Prelude.{not, ◌||◌, Some, slice_index}
use Rattle.std.specs.Bool.{beq, xor}
use Rattle.std.specs.List.{flat_map, list_all, range_with_len}
use Rattle.labelcore.specs.declared.level.Level.{Level}
use Rattle.labelcore.specs.declared.level.Level.TheVariants.{L, M, Q, H}
use Rattle.qrdata.specs.Versions.{side_of}
use Rattle.qrmatrix.specs.Bits.{bit}
use Rattle.qrmatrix.specs.Functions.{fixed_module, is_free}
use Rattle.qrmatrix.specs.Masks.{is_flipped}
use Rattle.qrmatrix.specs.Private.Counting.{one_if}
use Rattle.qrmatrix.specs.Private.Placing.{row_of}
use Rattle.qrmatrix.specs.Private.Drawing.{MarksFree}
use Rattle.qrmatrix.specs.Square.{value_at}
use Rattle.qrmatrix.specs.declared.placement.Strip.{Strip}

-- the module at a place of rows, with a mask taken off
abbrev pub unmasked : List ℕ → ℕ → ℕ → ℕ → Bool
unmasked rows mask x y = xor (is_flipped mask x y) (bit (slice_index rows y) x)

-- the module at a place of rows
abbrev pub module_in : List ℕ → ℕ → ℕ → Bool
module_in rows x y = bit (slice_index rows y) x

-- a module, if it is free
abbrev pub bit_if : (is_free dark : Bool) → List Bool
bit_if is_free dark = if is_free then dark ∷ [] else []

-- the free modules of a row in a column and in the next one, which is read first
abbrev pub row_read : (free modules : ℕ → ℕ → Bool) → ℕ → ℕ → List Bool
row_read free modules x y = bit_if (free (x + 1) y) (modules (x + 1) y) ++ bit_if (free x y) (modules x y)

-- those of `count` rows of a strip, from row t on
abbrev pub rows_read : Strip → (free modules : ℕ → ℕ → Bool) → ℕ → ℕ → List Bool
rows_read strip free modules t count =
    flat_map (λ t. row_read free modules strip.x (row_of strip.side strip.number t)) (range_with_len t count)

-- where a bit of a row is set, the modules of that column are free in this row and in the three below it
abbrev pub AreFourFree : ℕ → (free : List (List Bool)) → (fours : List ℕ) → Type 0
AreFourFree n free fours =
    (x y : ℕ) → y + 3 < n → module_in fours x y ≡ true → (k : ℕ) → k < 4 → value_at free x (y + k) ≡ true

-- the level and the mask that the five highest bits of the format information name, the highest at place 0
abbrev pub format_named : (ℕ → Bool) → Level × ℕ
format_named at =
    let level = if at 0 then (if at 1 then L else M) else (if at 1 then Q else H) in
    (level, 4 * one_if (not (at 2)) + (2 * one_if (at 3) + one_if (not (at 4))))

-- whether each module of a row that is not free is as it should be
abbrev pub shows_row : ℕ → (row free dark : ℕ → Bool) → Bool
shows_row n row free dark = list_all (λ x. free x || beq (dark x) (row x)) (range_with_len 0 n)

-- the free modules of a symbol, and those of the others that are dark
pub record DrawsPatterns (v : ℕ) (level : Level) (mask : ℕ) (free dark : List (List Bool)) : Type 0 where
  pub marked : MarksFree v free
  pub drawn : (x y : ℕ) → x < side_of v → y < side_of v → is_free v x y ≡ false
      → fixed_module v level mask x y ≡ Some (value_at dark x y)
