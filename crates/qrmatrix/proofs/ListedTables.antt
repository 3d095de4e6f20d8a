-- The tables of QR symbols beside those of other programs: qrencode 4.1.1 (qrspec.c) and what Zint 2.11.1 draws; the
-- weights of ISO/IEC 18004, 7.8.3; and places inside and outside of a square.
use Rattle.std.proofs.Common.{◌≡◌, ℕ, refl, Bool, true, false, List, [], ◌∷◌, ◌++◌, map, codes}
use Rattle.std.specs.Prelude.{◌==◌, ◌+◌, slice_index_or}
use Rattle.std.specs.List.{flat_map, range_with_len, slice_split}
use Rattle.gf256.specs.BinaryPolynomial.{binary_remainder}
use Rattle.labelcore.specs.declared.level.Level.TheVariants.{L, M, Q, H}
use Rattle.qrmatrix.specs.Functions.{alignment_coordinates}
use Rattle.qrmatrix.specs.Information.{different_bits, format_information, level_indicator, version_information}
use Rattle.qrmatrix.specs.Masks.{is_flipped}
use Rattle.qrmatrix.specs.Penalty.{balance_penalty, dark_count, finder_before_light, finder_penalty, run_penalty}
use Rattle.qrmatrix.specs.Modules.{is_inside}
use Rattle.qrmatrix.specs.Penalty.{penalty, square_penalty}
use Rattle.qrmatrix.specs.Placement.{remainder_bits}
use Rattle.qrmatrix.specs.Reading.{level_of}
use Rattle.qrmatrix.specs.Square.{value_at}
use Rattle.qrmatrix.specs.Symbol.{Symbol, is_dark}

-- the centres of alignment of versions 1 to 10; qrencode leaves out the 6 that each list begins with
centres : map alignment_coordinates (range_with_len 1 10) ≡ [] ∷ map (λ centres. 6 ∷ centres)
    ((18 ∷ []) ∷ (22 ∷ []) ∷ (26 ∷ []) ∷ (30 ∷ []) ∷ (34 ∷ []) ∷ (22 ∷ 38 ∷ []) ∷ (24 ∷ 42 ∷ []) ∷ (26 ∷ 46 ∷ [])
    ∷ (28 ∷ 50 ∷ []) ∷ [])
unfolding alignment_coordinates
centres = refl

remainders : map remainder_bits (range_with_len 1 10) ≡ 0 ∷ 7 ∷ 7 ∷ 7 ∷ 7 ∷ 7 ∷ 0 ∷ 0 ∷ 0 ∷ 0 ∷ []
unfolding remainder_bits
remainders = refl

-- the words of masks 0 and 1 at level L differ in seven bits, those of versions 7 and 8 in eight; a higher bit is not
-- counted
differences : different_bits 15 0x77C4 0x72F3 ∷ different_bits 18 0x07C94 0x085BC ∷ different_bits 15 0x5412 0x5412
    ∷ different_bits 2 4 0 ∷ different_bits 3 4 0 ∷ [] ≡ 7 ∷ 8 ∷ 0 ∷ 0 ∷ 1 ∷ []
differences = refl

-- the indicators 01, 00, 11 and 10 (ISO/IEC 18004, table 12), written and read
indicators : map level_indicator (L ∷ M ∷ Q ∷ H ∷ []) ≡ 1 ∷ 0 ∷ 3 ∷ 2 ∷ []
indicators = refl

levels_of_indicators : map level_of (0 ∷ 1 ∷ 2 ∷ 3 ∷ []) ≡ M ∷ L ∷ H ∷ Q ∷ []
levels_of_indicators = refl

format_informations : map (λ level. map (format_information level) (range_with_len 0 8)) (L ∷ M ∷ Q ∷ H ∷ []) ≡
    (0x77c4 ∷ 0x72f3 ∷ 0x7daa ∷ 0x789d ∷ 0x662f ∷ 0x6318 ∷ 0x6c41 ∷ 0x6976 ∷ [])
    ∷ (0x5412 ∷ 0x5125 ∷ 0x5e7c ∷ 0x5b4b ∷ 0x45f9 ∷ 0x40ce ∷ 0x4f97 ∷ 0x4aa0 ∷ [])
    ∷ (0x355f ∷ 0x3068 ∷ 0x3f31 ∷ 0x3a06 ∷ 0x24b4 ∷ 0x2183 ∷ 0x2eda ∷ 0x2bed ∷ [])
    ∷ (0x1689 ∷ 0x13be ∷ 0x1ce7 ∷ 0x19d0 ∷ 0x0762 ∷ 0x0255 ∷ 0x0d0c ∷ 0x083b ∷ []) ∷ []
unfolding format_information binary_remainder
format_informations = refl

-- versions 7 to 10, and the highest one (ISO/IEC 18004, annex D)
version_informations : map version_information (7 ∷ 8 ∷ 9 ∷ 10 ∷ 40 ∷ []) ≡
    0x07c94 ∷ 0x085bc ∷ 0x09a99 ∷ 0x0a4d3 ∷ 0x28c69 ∷ []
unfolding version_information binary_remainder
version_informations = refl

-- The modules that a mask flips, in the square of 12 by 12 with its upper left module in column 12 and row 30: what
-- differs between Zint's symbols `--vers=10 --mask=N` and `--mask=0`, and for mask 0 the modules whose column and row
-- have an even sum. Each mask repeats after 12 columns and 12 rows.
window : ℕ → List Bool
window mask = flat_map (λ y. map (λ x. is_flipped mask x y) (range_with_len 12 12)) (range_with_len 30 12)

-- modules written as rows of 0 and 1 with a blank between each two
modules : List ℕ → List Bool
modules text = flat_map (λ row. map (λ c. c == 49) row) (slice_split (λ c. c == 32) text)

-- masks 0 to 7
flipped : map window (range_with_len 0 8) ≡ map modules (
    (codes "101010101010 010101010101 101010101010 010101010101 101010101010 010101010101 " ++
    codes "101010101010 010101010101 101010101010 010101010101 101010101010 010101010101")
    ∷ (codes "111111111111 000000000000 111111111111 000000000000 111111111111 000000000000 " ++
    codes "111111111111 000000000000 111111111111 000000000000 111111111111 000000000000")
    ∷ (codes "100100100100 100100100100 100100100100 100100100100 100100100100 100100100100 " ++
    codes "100100100100 100100100100 100100100100 100100100100 100100100100 100100100100")
    ∷ (codes "100100100100 001001001001 010010010010 100100100100 001001001001 010010010010 " ++
    codes "100100100100 001001001001 010010010010 100100100100 001001001001 010010010010")
    ∷ (codes "000111000111 000111000111 111000111000 111000111000 000111000111 000111000111 " ++
    codes "111000111000 111000111000 000111000111 000111000111 111000111000 111000111000")
    ∷ (codes "111111111111 100000100000 100100100100 101010101010 100100100100 100000100000 " ++
    codes "111111111111 100000100000 100100100100 101010101010 100100100100 100000100000")
    ∷ (codes "111111111111 111000111000 110110110110 101010101010 101101101101 100011100011 " ++
    codes "111111111111 111000111000 110110110110 101010101010 101101101101 100011100011")
    ∷ (codes "101010101010 000111000111 100011100011 010101010101 111000111000 011100011100 " ++
    codes "101010101010 000111000111 100011100011 010101010101 111000111000 011100011100")
    ∷ [])
unfolding window is_flipped modules
flipped = refl

-- ---- the penalty

-- a line of as many equal modules
line_of : Bool → ℕ → Bool
line_of dark i = dark

-- a line by its modules, light after them
shown : List ℕ → ℕ → Bool
shown text i = slice_index_or (map (λ c. c == 49) text) i false

-- a run of 5 adds 3, and each module more adds 1; one of 4 adds nothing
runs : map (λ n. run_penalty n (line_of true)) (4 ∷ 5 ∷ 6 ∷ 7 ∷ 21 ∷ []) ≡ 0 ∷ 3 ∷ 4 ∷ 5 ∷ 19 ∷ []
unfolding run_penalty line_of
runs = refl

light_runs : map (λ text. run_penalty 12 (shown text)) (codes "100000101111" ∷ codes "010000011111"
    ∷ codes "010101010101" ∷ []) ≡ 3 ∷ 6 ∷ 0 ∷ []
unfolding run_penalty shown
light_runs = refl

-- 1011101 with four light modules before it or after it adds 40 each time, and with three none
finders : map (λ text. finder_penalty 15 (shown text)) (codes "101110100001010" ∷ codes "010100001011101"
    ∷ codes "000010111010000" ∷ codes "010111010001010" ∷ codes "100010111010001" ∷ codes "101111010000101" ∷ []) ≡
    40 ∷ 40 ∷ 80 ∷ 0 ∷ 0 ∷ 0 ∷ []
unfolding finder_penalty shown
finders = refl

pattern : finder_before_light ≡ true ∷ false ∷ true ∷ true ∷ true ∷ false ∷ true ∷ false ∷ false ∷ false ∷ false ∷ []
pattern = refl

-- each square of 2 by 2 modules of one colour adds 3: a square of m by n modules has (m-1)(n-1)
squares : map (λ n. square_penalty n (λ x y. true)) (1 ∷ 2 ∷ 3 ∷ 5 ∷ []) ≡ 0 ∷ 3 ∷ 12 ∷ 48 ∷ []
unfolding square_penalty
squares = refl

no_squares : square_penalty 2 (λ x y. x == y) ≡ 0
unfolding square_penalty
no_squares = refl

-- 10 for each step of 5 % from the half: between 45 and 55 % none, then 10, and 100 at 0 and 100 %
balances : map (balance_penalty 10) (50 ∷ 46 ∷ 54 ∷ 45 ∷ 55 ∷ 41 ∷ 40 ∷ 60 ∷ 0 ∷ 100 ∷ []) ≡
    0 ∷ 0 ∷ 0 ∷ 10 ∷ 10 ∷ 10 ∷ 20 ∷ 20 ∷ 100 ∷ 100 ∷ []
unfolding balance_penalty
balances = refl

dark_modules : dark_count 3 (λ x y. x == y) ≡ 3
unfolding dark_count
dark_modules = refl

-- a light square of 5 by 5 with a dark corner: four rows and four columns add 3 each, fifteen squares 45, and 4 % of
-- dark modules 90
dark_corner : penalty 5 (λ x y. x + y == 0) ≡ 12 + 12 + 45 + 90
unfolding penalty run_penalty finder_penalty square_penalty dark_count balance_penalty
dark_corner = refl

-- ---- places

-- light outside of the rows
outside : (value_at [] 0 0 ≡ false) × (value_at ((true ∷ []) ∷ []) 1 0 ≡ false)
    × (value_at ((true ∷ []) ∷ []) 0 1 ≡ false) × (value_at ((true ∷ []) ∷ []) 0 0 ≡ true)
outside = (refl, refl, refl, refl)

-- columns and rows from 0 to the one before the side
insides : (is_inside 21 20 0 ≡ true) × (is_inside 21 0 20 ≡ true) × (is_inside 21 21 0 ≡ false)
    × (is_inside 21 0 21 ≡ false)
insides = (refl, refl, refl, refl)

-- a symbol whose only dark module is in column 1 and row 0
one_dark : Symbol
one_dark = record { side = 2; mask = 0; rows = (false ∷ true ∷ []) ∷ (false ∷ false ∷ []) ∷ [] }

column_and_row : (is_dark one_dark 1 0 ≡ true) × (is_dark one_dark 0 1 ≡ false)
unfolding one_dark
column_and_row = (refl, refl)
