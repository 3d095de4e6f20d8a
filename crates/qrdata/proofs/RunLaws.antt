-- A table of first segments that is filled from its end, and in it the runs of bytes that only byte mode has.
use Rattle.std.proofs.Common.{◌≡◌, ℕ, ◌+◌, ◌<◌, ◌≤◌, List, drop, length, get_or, refl, sym, ap, ◌∙◌, arith, true, false, cond}
use Rattle.std.specs.Prelude.{◌==◌, nat_lt, if◌then◌else◌}
use Rattle.std.proofs.lemmas.Bool.{cond_both, eqb-false, eqb-true, le-ltb, ne_eqb}
use Rattle.std.proofs.lemmas.List.{drop_more, length-drop}
use Rattle.qrdata.specs.declared.mode.Mode.TheVariants.{Byte}
use Rattle.qrdata.specs.declared.mode.Segment.{Segment}
use Rattle.qrdata.specs.declared.firsts.Firsts.{Firsts}
use Rattle.qrdata.specs.declared.segmentation.Choices.{Choices}
use Rattle.qrdata.specs.Private.ChoiceView.{ChoiceView}
use Rattle.qrdata.specs.Private.Firsts.{first_at}
use Rattle.qrdata.specs.Private.Table.{NamesFirsts, better_choice, byte_choices, choices_of, longer_choice, short_choice}
use Rattle.qrdata.specs.Segments.{alphanumeric_value, segment_length, segment_of}
use Rattle.qrdata.proofs.BestChoiceLaws.{byte_choices-is}
use Rattle.qrdata.proofs.SmallChoiceLaws.{AreSmall-of}

-- a segment more at the front of those that are named
pub named_more : (version : ℕ) (bytes : List ℕ) (place : ℕ) (old new : Firsts) (s : Segment)
    → NamesFirsts version bytes (place + 1) old
    → ((k : ℕ) → first_at new k ≡ (if k == place then s else first_at old k))
    → s ≡ (choices_of version (drop place bytes)).best.segment → NamesFirsts version bytes place new
named_more version bytes place old new s named put is = λ k from inside.
    put k ∙ cond_both (k == place) s (first_at old k)
    (λ (u : Segment). u ≡ (choices_of version (drop k bytes)).best.segment)
    (λ yes. rw (eqb-true k place yes) is)
    (λ no. named k (omega (arith, eqb-false k place no)) inside)

-- the choices from a byte on that only byte mode has
pub run_first : (version : ℕ) (bytes : List ℕ) (place : ℕ) (rest : Choices) → length bytes ≤ 657
    → place < length bytes → get_or bytes place 0 < 256 → 45 ≤ alphanumeric_value (get_or bytes place 0)
    → rest ≡ choices_of version (drop (place + 1) bytes)
    → byte_choices (better_choice (longer_choice rest.bytes 8) (short_choice version Byte rest.best.bits))
    ≡ choices_of version (drop place bytes)
unfolding choices_of
run_first version bytes place rest few inside small none is =
    let later = drop (place + 1) bytes in
    let room = AreSmall-of version later (omega (arith, length-drop (place + 1) bytes)) in
    rw (is, drop_more bytes place 0 inside)
    (byte_choices-is version (get_or bytes place 0) (choices_of version later) small none room.3)

more_than_a_byte : (version : ℕ) → 8 < segment_length version (segment_of Byte 1)
more_than_a_byte version = elim (nat_lt version 10) as (λ t. 8 < 4 + cond t 8 16 + 8)
    [ true ↦ omega arith | false ↦ omega arith ]

-- in a run one byte more is better than a segment of its own
longer_best : (version : ℕ) (c : ChoiceView)
    → better_choice (longer_choice c 8) (short_choice version Byte c.bits) ≡ longer_choice c 8
unfolding better_choice
longer_best version c =
    let short = segment_length version (segment_of Byte 1) + c.bits in
    rw (
      le-ltb short (c.bits + 8) (omega (arith, more_than_a_byte version)),
      ne_eqb short (c.bits + 8) (λ e. omega (arith, more_than_a_byte version, e)),
    ) refl

pub run_more : (version : ℕ) (bytes : List ℕ) (place : ℕ) (c : ChoiceView) → length bytes ≤ 657
    → place < length bytes → get_or bytes place 0 < 256 → 45 ≤ alphanumeric_value (get_or bytes place 0)
    → byte_choices c ≡ choices_of version (drop (place + 1) bytes)
    → byte_choices (longer_choice c 8) ≡ choices_of version (drop place bytes)
run_more version bytes place c few inside small none is =
    ap byte_choices (sym (longer_best version c))
    ∙ run_first version bytes place (byte_choices c) few inside small none is
