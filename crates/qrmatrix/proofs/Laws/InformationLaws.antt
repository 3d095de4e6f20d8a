-- The format and version information that ISO/IEC 18004 lists (Annexes C and D), computed, and their quotients.
use Rattle.std.proofs.Common.{◌≡◌, ℕ, ◌*◌, ◌+◌, ◌/◌, ◌^◌, ◌<◌, refl, sym, ap, arith}
use Rattle.std.specs.Prelude.{bit_xor, map}
use Rattle.std.specs.List.{range_with_len}
use Rattle.gf256.specs.BinaryPolynomial.{binary_product, binary_remainder}
use Rattle.gf256.proofs.Laws.ProductRemainderLaws.{binary_quotient, binary_quotient-lt}
use Rattle.labelcore.specs.declared.level.Level.{Level}
use Rattle.labelcore.specs.declared.level.Level.TheVariants.{L, M, Q, H}
use Rattle.qrmatrix.specs.Information.{level_indicator, format_information, version_information, IsMultipleOf}
use Rattle.qrmatrix.specs.Information.{FormatInformationIsListed}
use Rattle.qrmatrix.specs.Information.{FormatInformationIsMultiple, VersionInformationIsListed}
use Rattle.qrmatrix.specs.Information.{VersionInformationIsMultiple}
use Rattle.labelcore.proofs.Laws.ComputedLaws.{by_version, same_at}

pub format_information-listed : FormatInformationIsListed
unfolding format_information binary_remainder
format_information-listed = refl

pub version_information-listed : VersionInformationIsListed
unfolding version_information binary_remainder
version_information-listed = refl

-- the message and the product of a number's division by a generator
abbrev divided : ℕ → ℕ → ℕ → ℕ → ℕ × ℕ
divided degree generator terms n =
    (n / 2 ^ degree, binary_product terms generator (binary_quotient degree generator terms n))

-- a number whose division by the generator leaves nothing
multiple : (degree generator terms message n : ℕ) → divided degree generator terms n ≡ (message, n)
    → IsMultipleOf degree generator terms message n
multiple degree generator terms message n e =
    record {
      message_bits = ap (λ (p : ℕ × ℕ). p.0) e;
      quotient = binary_quotient degree generator terms n;
      quotient_degree = binary_quotient-lt degree generator terms n;
      division = sym (ap (λ (p : ℕ × ℕ). p.1) e);
    }

-- the format information with its mask taken off
abbrev format_code : Level → ℕ → ℕ
format_code level mask = bit_xor 0x5412 (format_information level mask)

format_code-multiple : (level : Level) → map (λ mask. divided 10 0x537 5 (format_code level mask)) (range_with_len 0 8)
    ≡ map (λ mask. (level_indicator level * 8 + mask, format_code level mask)) (range_with_len 0 8)
    → (mask : ℕ) → mask < 8 → IsMultipleOf 10 0x537 5 (level_indicator level * 8 + mask) (format_code level mask)
format_code-multiple level e mask h =
    multiple 10 0x537 5 (level_indicator level * 8 + mask) (format_code level mask)
    (same_at 0 8 (λ mask. divided 10 0x537 5 (format_code level mask))
    (λ mask. (level_indicator level * 8 + mask, format_code level mask)) e mask (omega arith) h)

pub format_information-multiple : FormatInformationIsMultiple
unfolding format_information binary_remainder binary_product binary_quotient
format_information-multiple L mask h = format_code-multiple L refl mask h
format_information-multiple M mask h = format_code-multiple M refl mask h
format_information-multiple Q mask h = format_code-multiple Q refl mask h
format_information-multiple H mask h = format_code-multiple H refl mask h

pub version_information-multiple : VersionInformationIsMultiple
unfolding version_information binary_remainder binary_product binary_quotient
version_information-multiple v l h =
    multiple 12 0x1F25 6 v (version_information v)
    (by_version (λ v. divided 12 0x1F25 6 (version_information v)) (λ v. (v, version_information v)) refl v l h)
