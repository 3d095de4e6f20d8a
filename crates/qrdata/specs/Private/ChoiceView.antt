-- A choice of a first segment as clauses see it.
use Rattle.std.specs.Prelude.{ℕ, zero, suc, ◌-◌, ◌/◌, ◌%◌}
use Rattle.qrdata.specs.declared.mode.Mode.{Mode}
use Rattle.qrdata.specs.declared.mode.Mode.TheVariants.{Numeric, Alphanumeric, Byte}
use Rattle.qrdata.specs.declared.mode.Segment.{Segment}
use Rattle.qrdata.specs.Segments.{segment_of}

-- a first segment, and the bits of the list of it and of the best segments of what comes after it
pub record ChoiceView : Type 0 where
  pub segment : Segment
  pub bits : ℕ

-- the rank of a mode in the order that decides ties, and the mode of a rank
abbrev pub rank_of : Mode → ℕ
rank_of Numeric = 0
rank_of Alphanumeric = 1
rank_of Byte = 2

abbrev pub mode_at : ℕ → Mode
mode_at zero = Numeric
mode_at (suc zero) = Alphanumeric
mode_at (suc (suc rank)) = Byte

-- the segment that a number stands for: 4 times 1023 less its length, plus the rank of its mode
abbrev pub segment_in : ℕ → Segment
segment_in code = segment_of (mode_at (code % 4)) (1023 - code / 4 % 1024)

-- the choice that a number stands for: 4096 times its bits, plus the number of its segment
abbrev pub choice_in : ℕ → ChoiceView
choice_in key = record { segment = segment_in key; bits = key / 4096 }
