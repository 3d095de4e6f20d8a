-- The table of the format information has what the definition computes.
use Rattle.std.proofs.Common.{◌≡◌, ℕ, ◌<◌, refl, arith, List, [], map}
use Rattle.std.specs.Prelude.{slice_index_or}
use Rattle.std.specs.List.{range_with_len}
use Rattle.gf256.specs.BinaryPolynomial.{binary_remainder}
use Rattle.labelcore.specs.declared.level.Level.{Level}
use Rattle.labelcore.specs.declared.level.Level.TheVariants.{L, M, Q, H}
use Rattle.qrmatrix.specs.Information.{format_information, level_indicator}
use Rattle.qrmatrix.specs.declared.information.TheConstants.{FORMATS}
use Rattle.labelcore.proofs.Laws.ComputedLaws.{same_at}

abbrev pub format_entry : ℕ → ℕ → ℕ
format_entry indicator mask = slice_index_or (slice_index_or {A = List ℕ} FORMATS indicator []) mask 0

row_is : (level : Level) → map (format_entry (level_indicator level)) (range_with_len 0 8)
    ≡ map (format_information level) (range_with_len 0 8) → (mask : ℕ) → mask < 8
    → format_entry (level_indicator level) mask ≡ format_information level mask
row_is level e mask h =
    same_at 0 8 (format_entry (level_indicator level)) (format_information level) e mask (omega arith) h

pub format_entry_is : (level : Level) (mask : ℕ) → mask < 8
    → format_entry (level_indicator level) mask ≡ format_information level mask
unfolding format_information binary_remainder
format_entry_is L = row_is L refl
format_entry_is M = row_is M refl
format_entry_is Q = row_is Q refl
format_entry_is H = row_is H refl
