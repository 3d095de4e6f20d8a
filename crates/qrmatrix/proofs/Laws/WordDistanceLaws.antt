-- The words of format and version information differ in many bits: tests computed over all pairs (ISO/IEC 18004,
-- Annexes C and D). A word of format information is named by its message, the level indicator and the mask.
use Rattle.std.proofs.Common.{◌≡◌, ℕ, ◌+◌, ◌*◌, ◌^◌, ◌<◌, ◌||◌, Bool, true, refl, arith, inl, inr, eqb, nat_le}
use Rattle.std.specs.Prelude.{bit_xor}
use Rattle.std.specs.List.{list_all, range_with_len}
use Rattle.std.proofs.lemmas.Bool.{eqb-true, leb-true, or_cases}
use Rattle.gf256.specs.BinaryPolynomial.{binary_remainder}
use Rattle.labelcore.specs.declared.level.Level.{Level}
use Rattle.labelcore.specs.declared.level.Level.TheVariants.{L, M, Q, H}
use Rattle.qrmatrix.specs.Information.{FormatWordsAreFarApart, VersionWordsAreFarApart, different_bits}
use Rattle.qrmatrix.specs.Information.{format_information, level_indicator, version_information}
use Rattle.labelcore.proofs.Laws.ComputedLaws.{pairs_pass}

-- whether two words of a code are one, or differ in so many bits
far : (word : ℕ → ℕ) (count least : ℕ) → ℕ → ℕ → Bool
far word count least j k = eqb j k || nat_le least (different_bits count (word j) (word k))

far_apart : (word : ℕ → ℕ) (count least n : ℕ)
    → list_all (λ j. list_all (far word count least j) (range_with_len 0 n)) (range_with_len 0 n) ≡ true → (j k : ℕ)
    → j < n → k < n → different_bits count (word j) (word k) < least → j ≡ k
unfolding far
far_apart word count least n all j k first second near =
    elim (or_cases (eqb j k) _ (pairs_pass (far word count least) n j k all first second)) [
      | inl same ↦ eqb-true j k same
      | inr far ↦ absurd (omega (arith, near, leb-true _ _ far))
    ]

unfoldable pub format_word : ℕ → ℕ
format_word message = bit_xor 0x5412 (message * 2 ^ 10 + binary_remainder 10 0x537 5 (message * 2 ^ 10))

pub format_words_apart : (j k : ℕ) → j < 32 → k < 32 → different_bits 15 (format_word j) (format_word k) < 7 → j ≡ k
unfolding far format_word binary_remainder
format_words_apart = far_apart format_word 15 7 32 refl

indicator_below : (level : Level) → level_indicator level < 4
indicator_below L = omega arith
indicator_below M = omega arith
indicator_below Q = omega arith
indicator_below H = omega arith

pub format_words-far_apart : FormatWordsAreFarApart
unfolding format_information format_word
format_words-far_apart level other_level mask other_mask h k near =
    let low = indicator_below level in
    let other_low = indicator_below other_level in
    let same = format_words_apart (level_indicator level * 8 + mask) (level_indicator other_level * 8 + other_mask)
    (omega (arith, low, h)) (omega (arith, other_low, k)) near in
    (omega (arith, same, h, k), omega (arith, same, h, k))

pub version_words-far_apart : VersionWordsAreFarApart
unfolding far version_information binary_remainder
version_words-far_apart v other h k near =
    far_apart version_information 18 8 11 refl v other (omega arith) (omega arith) near
