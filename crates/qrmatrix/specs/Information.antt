-- The format and version information of a QR symbol as numbers (ISO/IEC 18004, 7.9, 7.10 and Annexes C and D).
-- Why: `format_information`, `version_information`: 7.9, 7.10, annexes C and D.
-- Why: `FormatInformationIsListed`, `VersionInformationIsListed`: annexes C and D; the theorem `symbol_laws`.
-- Why: `FormatWordsAreFarApart`, `VersionWordsAreFarApart`: annexes C and D; the theorem `symbol_laws`.
use Rattle.std.specs.Prelude.{◌≡◌, ℕ, ◌+◌, ◌*◌, ◌/◌, ◌^◌, ◌<◌, ◌≤◌, bit_xor, [], ◌∷◌, map, not, count_by}
use Rattle.std.specs.Bool.{beq}
use Rattle.std.specs.List.{flat_map, range_with_len}
use Rattle.gf256.specs.BinaryPolynomial.{binary_product, binary_remainder}
use Rattle.labelcore.specs.declared.level.Level.{Level}
use Rattle.labelcore.specs.declared.level.Level.TheVariants.{L, M, Q, H}
use Rattle.qrmatrix.specs.Bits.{bit}

-- the error correction level indicator (Table 12)
abbrev pub level_indicator : Level → ℕ
level_indicator L = 1
level_indicator M = 0
level_indicator Q = 3
level_indicator H = 2

-- the format information: level indicator, mask reference and ten check bits by the generator 0x537, with the mask
-- 0x5412 laid over
unfoldable pub format_information : Level → ℕ → ℕ
format_information level mask =
    let message = (level_indicator level * 8 + mask) * 2 ^ 10 in
    bit_xor 0x5412 (message + binary_remainder 10 0x537 5 message)

-- the format information that the standard lists (Annex C), that of a level with the masks 0 to 7 on a line
abbrev pub FormatInformationIsListed : Type 0
FormatInformationIsListed = flat_map (λ level. map (format_information level) (range_with_len 0 8))
    (L ∷ M ∷ Q ∷ H ∷ []) ≡
    0x77C4 ∷ 0x72F3 ∷ 0x7DAA ∷ 0x789D ∷ 0x662F ∷ 0x6318 ∷ 0x6C41 ∷ 0x6976 ∷
    0x5412 ∷ 0x5125 ∷ 0x5E7C ∷ 0x5B4B ∷ 0x45F9 ∷ 0x40CE ∷ 0x4F97 ∷ 0x4AA0 ∷
    0x355F ∷ 0x3068 ∷ 0x3F31 ∷ 0x3A06 ∷ 0x24B4 ∷ 0x2183 ∷ 0x2EDA ∷ 0x2BED ∷
    0x1689 ∷ 0x13BE ∷ 0x1CE7 ∷ 0x19D0 ∷ 0x0762 ∷ 0x0255 ∷ 0x0D0C ∷ 0x083B ∷ []

-- the version information: the version and twelve check bits by the generator 0x1F25
unfoldable pub version_information : ℕ → ℕ
version_information v = let message = v * 2 ^ 12 in message + binary_remainder 12 0x1F25 6 message

-- the version information that the standard lists (Annex D), versions 7 to 10
abbrev pub VersionInformationIsListed : Type 0
VersionInformationIsListed = map version_information (7 ∷ 8 ∷ 9 ∷ 10 ∷ []) ≡ 0x07C94 ∷ 0x085BC ∷ 0x09A99 ∷ 0x0A4D3 ∷ []

-- n is a multiple of the generator: as a polynomial over two elements it is the product of the generator and a quotient
-- of degree below `terms`. The bits of n above the degree of the generator are the message.
pub record IsMultipleOf (degree generator terms message n : ℕ) : Type 0 where
  pub message_bits : n / 2 ^ degree ≡ message
  pub quotient : ℕ
  pub quotient_degree : quotient < 2 ^ terms
  pub division : n ≡ binary_product terms generator quotient

-- the format information, its mask taken off, is a multiple of x^10 + x^8 + x^5 + x^4 + x^2 + x + 1 (Annex C)
abbrev pub FormatInformationIsMultiple : Type 0
FormatInformationIsMultiple = (level : Level) (mask : ℕ) → mask < 8
    → IsMultipleOf 10 0x537 5 (level_indicator level * 8 + mask) (bit_xor 0x5412 (format_information level mask))

-- the version information is a multiple of x^12 + x^11 + x^10 + x^9 + x^8 + x^5 + x^2 + 1 (Annex D)
abbrev pub VersionInformationIsMultiple : Type 0
VersionInformationIsMultiple = (v : ℕ) → 1 ≤ v → v ≤ 10 → IsMultipleOf 12 0x1F25 6 v (version_information v)

-- in how many of their lowest bits two numbers differ
abbrev pub different_bits : ℕ → ℕ → ℕ → ℕ
different_bits count n other = count_by (λ i. not (beq (bit n i) (bit other i))) (range_with_len 0 count)

-- two words of format information differ in at least 7 of their 15 bits (Annex C)
abbrev pub FormatWordsAreFarApart : Type 0
FormatWordsAreFarApart =
    (level other_level : Level) (mask other_mask : ℕ) → mask < 8 → other_mask < 8
    → different_bits 15 (format_information level mask) (format_information other_level other_mask) < 7
    → (level_indicator level ≡ level_indicator other_level) × (mask ≡ other_mask)

-- two words of version information differ in at least 8 of their 18 bits (Annex D)
abbrev pub VersionWordsAreFarApart : Type 0
VersionWordsAreFarApart =
    (v other : ℕ) → v ≤ 10 → other ≤ 10
    → different_bits 18 (version_information v) (version_information other) < 8 → v ≡ other
