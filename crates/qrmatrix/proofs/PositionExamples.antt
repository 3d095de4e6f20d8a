-- Worked values: symbols in other positions than upright, in mirrors and turned.
use Rattle.std.proofs.Common.{◌≡◌, ℕ, ◌-◌, refl, Bool, List, [], ◌∷◌, map, None, Some, replicate}
use Rattle.std.specs.Prelude.{option_map, slice_index}
use Rattle.gf256.specs.BinaryPolynomial.{binary_remainder}
use mathlib.Core.Bool.{xor}
use Rattle.labelcore.specs.declared.level.Level.{Level}
use Rattle.labelcore.specs.declared.level.Level.TheVariants.{M}
use Rattle.qrdata.specs.Bits.{codewords_of, number_of}
use Rattle.qrdata.specs.Versions.{total_codewords}
use Rattle.qrmatrix.specs.Bits.{bit}
use Rattle.qrmatrix.specs.Functions.{fixed_module, is_free, role}
use Rattle.qrmatrix.specs.Information.{format_information, version_information}
use Rattle.qrmatrix.specs.Masks.{is_flipped}
use Rattle.qrmatrix.specs.Reading.{Reading, other_positions, read_bits, read_format, read_matrix, shows_functions}
use Rattle.qrmatrix.specs.Reading.{shows_version, walk}

-- a symbol of version 2-L under mask 3, as Zint draws it (`zint -b 58 --vers=2 --secure=1 --mask=3 --dump -d "HALF A
-- TURN"`): bit x of a row is its module at column x
rows : List ℕ
rows =
    0x1FD837F ∷ 0x104C041 ∷ 0x174F95D ∷ 0x1750B5D ∷ 0x1742F5D ∷ 0x1045241 ∷ 0x1FD557F ∷ 0x0006A00 ∷ 0x173614F
    ∷ 0x13D82A2 ∷ 0x1A2C050 ∷ 0x192F9A4 ∷ 0x1850B70 ∷ 0x1302FB0 ∷ 0x0AE50C6 ∷ 0x178B235 ∷ 0x0FF0968 ∷ 0x1D13500
    ∷ 0x0559C7F ∷ 0x0519041 ∷ 0x0DFBA5D ∷ 0x14BF35D ∷ 0x0BBBB5D ∷ 0x1618341 ∷ 0x166D37F ∷ []

modules_of : List ℕ → ℕ → ℕ → Bool
modules_of rows x y = bit (slice_index rows y) x

read : option_map (λ (r : Reading). r.version) (read_matrix 25 (modules_of rows)) ≡ Some 2
unfolding rows modules_of read_matrix xor total_codewords read_format shows_version shows_functions read_bits walk
    codewords_of number_of fixed_module role is_free is_flipped format_information version_information binary_remainder
read = refl

-- the modules of a symbol of version 2 in all other positions: columns for rows, left for right, upside down; then
-- turned by a half and by a quarter either way, and columns for rows along the other diagonal
positions : List (ℕ → ℕ → Bool)
unfolding modules_of rows
positions =
    let dark = modules_of rows in
    (λ x y. dark y x) ∷ (λ x y. dark (24 - x) y) ∷ (λ x y. dark x (24 - y)) ∷ (λ x y. dark (24 - x) (24 - y))
    ∷ (λ x y. dark y (24 - x)) ∷ (λ x y. dark (24 - y) x) ∷ (λ x y. dark (24 - y) (24 - x)) ∷ []

same_positions : other_positions 25 (modules_of rows) ≡ positions
unfolding positions
same_positions = refl

positions_read : map (read_matrix 25) positions ≡ replicate 7 None
unfolding positions read_matrix read_format shows_version shows_functions number_of fixed_module role
    format_information version_information binary_remainder
positions_read = refl

-- Version 1 has no alignment pattern, and there modules alone do not refuse a turned symbol. These squares have the
-- function patterns and the format information of two symbols of version 1-M: one upright, and one turned by a half
-- (mask 3) or by a quarter (mask 4). The other modules are light. Their codewords are not those of any data, in any
-- position: with a finder pattern where the data begins no data begins.
half_alike : List ℕ
half_alike =
    0x1FD17F ∷ 0x104141 ∷ 0x17505D ∷ 0x17515D ∷ 0x17405D ∷ 0x105041 ∷ 0x1FD57F ∷ 0x001100 ∷ 0x1A40ED ∷ 0 ∷ 0x004040 ∷ 0
    ∷ 0x16E04B ∷ 0x001100 ∷ 0x1FD57F ∷ 0x104141 ∷ 0x17405D ∷ 0x17515D ∷ 0x17415D ∷ 0x105041 ∷ 0x1FD17F ∷ []

quarter_alike : List ℕ
quarter_alike =
    0x1FC17F ∷ 0x104041 ∷ 0x17405D ∷ 0x17415D ∷ 0x17415D ∷ 0x104141 ∷ 0x1FD57F ∷ 0x000100 ∷ 0x13E1D1 ∷ 0 ∷ 0x000040 ∷ 0
    ∷ 0x1161F9 ∷ 0x000100 ∷ 0x1FD57F ∷ 0x104041 ∷ 0x17415D ∷ 0x17405D ∷ 0x17405D ∷ 0x104041 ∷ 0x1FC17F ∷ []

both_ways : map (λ m. option_map {U = ℕ × Level} (λ (r : Reading). (r.version, r.level)) (read_matrix 21 m))
    (modules_of half_alike ∷ (λ x y. modules_of half_alike (20 - x) (20 - y)) ∷ modules_of quarter_alike
    ∷ (λ x y. modules_of quarter_alike y (20 - x)) ∷ []) ≡ replicate 4 (Some (1, M))
unfolding half_alike quarter_alike modules_of read_matrix xor total_codewords read_format shows_version shows_functions
    read_bits walk codewords_of number_of fixed_module role is_free is_flipped format_information version_information
    binary_remainder
both_ways = refl
