-- A symbol of version 1 at level M with the digits 01234567 (the example of ISO/IEC 18004, Annex I), computed by the
-- definitions: a row of it under mask 2, its penalties under all masks, and its reading.
use Rattle.std.proofs.Common.{◌≡◌, ℕ, refl}
use Rattle.std.proofs.Common.{List, [], ◌∷◌, map, Option, None, Some}
use Rattle.std.specs.Prelude.{Bool, slice_index, reverse, nat_le, unwrap_or}
use Rattle.std.specs.List.{list_all, position_or_len, range_with_len}
use Rattle.gf256.specs.BinaryPolynomial.{binary_remainder}
use mathlib.Core.Bool.{xor}
use Rattle.labelcore.specs.declared.level.Level.{Level}
use Rattle.labelcore.specs.declared.level.Level.TheVariants.{M}
use Rattle.qrdata.specs.Bits.{codewords_of, number_of}
use Rattle.qrdata.specs.Versions.{total_codewords}
use Rattle.qrmatrix.specs.Bits.{bit}
use Rattle.qrmatrix.specs.Functions.{fixed_module, is_free, role}
use Rattle.qrmatrix.specs.Information.{format_information, version_information}
use Rattle.qrmatrix.specs.Masks.{is_flipped}
use Rattle.qrdata.specs.Versions.{side_of}
use Rattle.qrmatrix.specs.MaskChoice.{chosen_mask}
use Rattle.qrmatrix.specs.Modules.{module_at}
use Rattle.qrmatrix.specs.Penalty.{balance_penalty, dark_count, finder_penalty, penalty, run_penalty, square_penalty}
use Rattle.qrmatrix.specs.Placement.{key, rank}
use Rattle.qrmatrix.specs.Reading.{Reading, read_bits, read_format, read_matrix, shows_functions, shows_version, walk}

codewords : List ℕ
codewords =
    0x10 ∷ 0x20 ∷ 0x0C ∷ 0x56 ∷ 0x61 ∷ 0x80 ∷ 0xEC ∷ 0x11 ∷ 0xEC ∷ 0x11 ∷ 0xEC ∷ 0x11 ∷ 0xEC
    ∷ 0x11 ∷ 0xEC ∷ 0x11 ∷ 0xA5 ∷ 0x24 ∷ 0xD4 ∷ 0xC1 ∷ 0xED ∷ 0x36 ∷ 0xC7 ∷ 0x87 ∷ 0x2C ∷ 0x55
    ∷ []

-- bit x of a row is its module at column x
rows : List ℕ
rows =
    0x1FDA7F ∷ 0x105E41 ∷ 0x17415D ∷ 0x17435D ∷ 0x175D5D ∷ 0x105141 ∷ 0x1FD57F ∷ 0x001900 ∷ 0x07D27D ∷ 0x0695A8
    ∷ 0x1F2AC4
    ∷ 0x078210 ∷ 0x0129F8 ∷ 0x067D00 ∷ 0x00D67F ∷ 0x147D41 ∷ 0x06915D ∷ 0x00935D ∷ 0x052D5D ∷ 0x0D8041 ∷ 0x052F7F ∷ []

-- the module under a mask that is laid over in place of mask 2
under : ℕ → ℕ → ℕ → Bool
unfolding rows xor fixed_module role is_flipped format_information version_information binary_remainder
under mask x y =
    unwrap_or (fixed_module 1 M mask x y)
    (xor (xor (is_flipped mask x y) (is_flipped 2 x y)) (bit (slice_index rows y) x))

rows_under : ℕ → List ℕ
unfolding under number_of
rows_under mask =
    map (λ y. number_of (reverse (map (λ x. under mask x y) (range_with_len 0 21)))) (range_with_len 0 21)

penalty_of_rows : ℕ → List ℕ → ℕ
unfolding penalty run_penalty finder_penalty square_penalty dark_count balance_penalty
penalty_of_rows n rows = penalty n (λ x y. bit (slice_index rows y) x)

computed : map (λ mask. penalty_of_rows 21 (rows_under mask)) (range_with_len 0 8)
    ≡ 297 ∷ 533 ∷ 397 ∷ 452 ∷ 570 ∷ 637 ∷ 419 ∷ 406 ∷ []
unfolding rows_under penalty_of_rows
computed = refl

-- a row of modules under mask 2
modules_of_row : map (λ x. module_at 1 M 2 codewords x 9) (range_with_len 0 21)
    ≡ map (bit (slice_index rows 9)) (range_with_len 0 21)
unfolding rows codewords module_at xor fixed_module role rank is_free key is_flipped format_information
    binary_remainder
modules_of_row = refl

-- the penalties of a symbol under the masks 0 to 7
penalties : ℕ → Level → List ℕ → List ℕ
penalties v level codewords = map (λ mask. penalty (side_of v) (module_at v level mask codewords)) (range_with_len 0 8)

read_rows : ℕ → List ℕ → Option Reading
unfolding read_matrix xor total_codewords read_format shows_version shows_functions read_bits walk codewords_of
    number_of fixed_module role is_free is_flipped format_information version_information binary_remainder
read_rows n rows = read_matrix n (λ x y. bit (slice_index rows y) x)

reading : read_rows 21 rows ≡ Some (record { version = 1; level = M; codewords = codewords })
unfolding read_rows rows codewords
reading = refl

-- without a mask that is asked for, the chosen one is the place of the lowest penalty
place_of_lowest : List ℕ → ℕ
place_of_lowest numbers = position_or_len (λ p. list_all (nat_le p) numbers) numbers

mask_of_lowest : (v : ℕ) (level : Level) (codewords : List ℕ)
    → chosen_mask v level None codewords ≡ place_of_lowest (penalties v level codewords)
unfolding chosen_mask place_of_lowest penalties
mask_of_lowest v level _ = refl

-- of equal penalties the first counts
lowest : map place_of_lowest ((3 ∷ 1 ∷ 2 ∷ 1 ∷ []) ∷ (5 ∷ []) ∷ (2 ∷ 2 ∷ []) ∷ []) ≡ 1 ∷ 0 ∷ 0 ∷ []
unfolding place_of_lowest
lowest = refl
