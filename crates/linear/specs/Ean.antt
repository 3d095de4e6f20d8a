-- The rows of EAN and UPC symbols (ISO/IEC 15420, symbol characters, guard patterns and symbol formats).
-- Why: `pattern`, `symbol`, `ean13_row`, `ean8_row`, `upca_row`: 15420, symbol characters, guard patterns and formats.
use Rattle.std.specs.Prelude.{ℕ, Bool, List, [], ◌∷◌, ◌++◌, map, reverse, not, take, drop, replicate, slice_index_or}
use Rattle.std.specs.Prelude.{flat_map, zip, codes, ◌==◌, if◌then◌else◌}
use Rattle.linear.specs.declared.ean.NumberSet.{NumberSet}
use Rattle.linear.specs.declared.ean.NumberSet.TheVariants.{A, B, C}
use Rattle.linear.specs.Digits.{digit_value}
use Rattle.linear.specs.Modules.{modules}
use Rattle.linear.specs.Tables.{number_set_a, left_half_sets}

-- the modules of a digit in number set A
abbrev pub pattern_a : ℕ → List Bool
pattern_a digit = modules (slice_index_or number_set_a digit [])

-- the modules of a digit in a number set: set C is the complement of A, and set B is C read backwards
abbrev pub pattern : NumberSet → ℕ → List Bool
pattern A digit = pattern_a digit
pattern B digit = reverse (map not (pattern_a digit))
pattern C digit = map not (pattern_a digit)

-- the modules of digits, each in its number set
abbrev pub patterns : List NumberSet → List ℕ → List Bool
patterns sets bytes = flat_map (λ pair. pattern pair.0 (digit_value pair.1)) (zip sets bytes)

-- the guard at each end
abbrev pub normal_guard : List Bool
normal_guard = modules (codes "101")

-- the guard between the halves
abbrev pub centre_guard : List Bool
centre_guard = modules (codes "01010")

-- the row of a symbol: a left half in these sets and a right half in set C, between guards
abbrev pub symbol : List NumberSet → List ℕ → List ℕ → List Bool
symbol sets left right =
    normal_guard ++ (patterns sets left
    ++ (centre_guard ++ (flat_map (λ byte. pattern C (digit_value byte)) right ++ normal_guard)))

-- EAN-8: four digits in set A and four in set C
abbrev pub ean8_row : List ℕ → List Bool
ean8_row full = symbol (replicate 4 A) (take 4 full) (drop 4 full)

-- the number sets of the left half of an EAN-13 symbol, by its first digit: of the table's letters 65 is `A`
abbrev pub left_sets : ℕ → List NumberSet
left_sets digit = map (λ letter. if letter == 65 then A else B) (slice_index_or left_half_sets digit [])

-- EAN-13: the first digit picks the sets of the next six, and the last six are in set C
abbrev pub ean13_row : List ℕ → List Bool
ean13_row [] = []
ean13_row (first ∷ rest) = symbol (left_sets (digit_value first)) (take 6 rest) (drop 6 rest)

-- UPC-A: the row of EAN-13 for the same digits after a 0
abbrev pub upca_row : List ℕ → List Bool
upca_row full = ean13_row (48 ∷ full)
