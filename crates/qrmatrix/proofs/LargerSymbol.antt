-- The layout of a small symbol and of a larger one, version 7, which has all patterns (ISO/IEC 18004, 6.3, 7.9 and
-- 7.10), and how many modules are left to the codewords.
use Rattle.std.specs.Prelude.{◌≡◌, ℕ, ◌+◌, refl, List, [], ◌∷◌, ◌++◌, map, Option, None, Some, codes, replicate}
use Rattle.std.specs.Prelude.{if◌then◌else◌}
use Rattle.std.specs.List.{range_with_len}
use Rattle.std.specs.Option.{option_map}
use Rattle.qrdata.specs.Versions.{side_of}
use Rattle.qrmatrix.specs.Functions.{Role, Function, Format, Version, format_bit, is_free, role, version_bit}
use Rattle.qrmatrix.specs.Placement.{free_count}

-- a module's letter: `#` dark and `.` light in a function pattern, `a` to `o` bits 0 to 14 of the format information,
-- `A` to `R` bits 0 to 17 of the version information, and a blank for the codewords
letter : Option Role → ℕ
letter None = 32
letter (Some (Function dark)) = if dark then 35 else 46
letter (Some (Format i)) = 97 + i
letter (Some (Version i)) = 65 + i

-- the bits of the format information in column 8 and in row 8 (ISO/IEC 18004, 7.9), where no other pattern hides a bit
formats_in_column_8 : map (λ y. letter (option_map Format (format_bit 21 8 y))) (range_with_len 0 21) ≡
    codes "abcdef gh     ijklmno"
unfolding letter format_bit
formats_in_column_8 = refl

formats_in_row_8 : map (λ x. letter (option_map Format (format_bit 21 x 8))) (range_with_len 0 21) ≡
    codes "onmlkj ih    hgfedcba"
unfolding letter format_bit
formats_in_row_8 = refl

-- the bits of the version information in some columns and rows of version 7 (7.10), where no other pattern hides a bit
version_letters : List ℕ → List ℕ → List (List ℕ)
unfolding letter version_bit
version_letters columns rows = map (λ y. map (λ x. letter (option_map Version (version_bit 45 x y))) columns) rows

versions_below : version_letters (range_with_len 0 8) (range_with_len 33 12) ≡
    codes "        "
    ∷ codes "ADGJMP  "
    ∷ codes "BEHKNQ  "
    ∷ codes "CFILOR  " ∷ replicate 8 (codes "        ")
unfolding version_letters
versions_below = refl

versions_beside : version_letters (range_with_len 33 12) (range_with_len 0 8) ≡
    codes " ABC        "
    ∷ codes " DEF        "
    ∷ codes " GHI        "
    ∷ codes " JKL        "
    ∷ codes " MNO        "
    ∷ codes " PQR        " ∷ replicate 2 (codes "            ")
unfolding version_letters
versions_beside = refl

-- ---- what each module is there for

letters : ℕ → List ℕ → List (List ℕ)
unfolding letter role
letters v rows = map (λ y. map (λ x. letter (role v x y)) (range_with_len 0 (side_of v))) rows

-- the layout of the standard's figures, which symbols of Zint 2.11.1 have under all masks, of all levels and data
letters_of_version_1 : letters 1 (range_with_len 0 21) ≡
    codes "#######.a    .#######"
    ∷ codes "#.....#.b    .#.....#"
    ∷ codes "#.###.#.c    .#.###.#"
    ∷ codes "#.###.#.d    .#.###.#"
    ∷ codes "#.###.#.e    .#.###.#"
    ∷ codes "#.....#.f    .#.....#"
    ∷ codes "#######.#.#.#.#######"
    ∷ codes "........g    ........"
    ∷ codes "onmlkj#ih    hgfedcba"
    ∷ codes "      .              "
    ∷ codes "      #              "
    ∷ codes "      .              "
    ∷ codes "      #              "
    ∷ codes "........#            "
    ∷ codes "#######.i            "
    ∷ codes "#.....#.j            "
    ∷ codes "#.###.#.k            "
    ∷ codes "#.###.#.l            "
    ∷ codes "#.###.#.m            "
    ∷ codes "#.....#.n            "
    ∷ codes "#######.o            "
    ∷ []
unfolding letters
letters_of_version_1 = refl

-- the rows of version 7 that have alignment patterns, in columns 20 to 24 and 36 to 40, and version information
letters_of_version_7 : letters 7 (range_with_len 4 5 ++ range_with_len 34 7) ≡
    codes "#.###.#.e           #####         MNO.#.###.#"
    ∷ codes "#.....#.f           #...#         PQR.#.....#"
    ∷ codes "#######.#.#.#.#.#.#.#.#.#.#.#.#.#.#.#.#######"
    ∷ codes "........g           #...#            ........"
    ∷ codes "onmlkj#ih           #####            hgfedcba"
    ∷ codes "ADGJMP#                                      "
    ∷ codes "BEHKNQ.                                      "
    ∷ codes "CFILOR#             #####           #####    "
    ∷ codes "........#           #...#           #...#    "
    ∷ codes "#######.i           #.#.#           #.#.#    "
    ∷ codes "#.....#.j           #...#           #...#    "
    ∷ codes "#.###.#.k           #####           #####    "
    ∷ []
unfolding letters
letters_of_version_7 = refl

-- the highest version with no version information
none_in_version_6 : map (λ (p : ℕ × ℕ). role 6 p.0 p.1) ((30, 0) ∷ (32, 5) ∷ (0, 30) ∷ (5, 32) ∷ []) ≡
    replicate 4 None
unfolding role
none_in_version_6 = refl

-- 44 codewords and 7 bits more are free in version 2
free_modules : free_count 2 ≡ 359
unfolding free_count is_free role
free_modules = refl
