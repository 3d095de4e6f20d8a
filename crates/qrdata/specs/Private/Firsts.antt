-- A table of segments as numbers.
use Rattle.std.specs.Prelude.{ℕ, slice_index_or}
use Rattle.qrdata.specs.declared.firsts.Firsts.{Firsts}
use Rattle.qrdata.specs.declared.mode.Segment.{Segment}
use Rattle.qrdata.specs.Private.ChoiceView.{segment_in}

-- the segment at a place of the table
abbrev pub first_at : Firsts → (place : ℕ) → Segment
first_at firsts place = segment_in (slice_index_or firsts.codes place 0)
