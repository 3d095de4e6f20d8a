-- Eight dots are gathered into a byte by one product.
use Rattle.std.proofs.Common.{◌≡◌, ℕ, ◌*◌, ◌%◌, ◌/◌, ◌==◌, List, [], ◌∷◌, bit_or, refl}
use Rattle.std.specs.Prelude.{Bool, true}
use Rattle.std.specs.Int.{from_bool}
use Rattle.labelcore.proofs.Laws.ComputedLaws.{all_rows, passes_row}
use Rattle.capi.specs.Private.BitRows.{byte_of_dots}

-- the highest byte of the product, of eight numbers that are 0 or 1
abbrev pub gathered : ℕ → ℕ → ℕ → ℕ → ℕ → ℕ → ℕ → ℕ → ℕ
gathered a b c d e f g h =
    bit_or (bit_or (bit_or (bit_or (bit_or (bit_or (bit_or a (b * 256 % 18446744073709551616))
    (c * 65536 % 18446744073709551616)) (d * 16777216 % 18446744073709551616))
    (e * 4294967296 % 18446744073709551616)) (f * 1099511627776 % 18446744073709551616))
    (g * 281474976710656 % 18446744073709551616)) (h * 72057594037927936 % 18446744073709551616)
    * 9241421688590303745 % 18446744073709551616 / 72057594037927936

-- whether the dots are those bits
abbrev pub is_gathered : List Bool → Bool
is_gathered (a ∷ b ∷ c ∷ d ∷ e ∷ f ∷ g ∷ h ∷ []) =
    gathered (from_bool a) (from_bool b) (from_bool c) (from_bool d) (from_bool e) (from_bool f) (from_bool g)
    (from_bool h) == byte_of_dots a b c d e f g h
is_gathered other = true

-- all 256 cases
each : all_rows 8 is_gathered ≡ true
unfolding all_rows
each = refl

pub gathers : (a b c d e f g h : Bool) → is_gathered (a ∷ b ∷ c ∷ d ∷ e ∷ f ∷ g ∷ h ∷ []) ≡ true
gathers a b c d e f g h = passes_row 8 is_gathered (a ∷ b ∷ c ∷ d ∷ e ∷ f ∷ g ∷ h ∷ []) each refl
