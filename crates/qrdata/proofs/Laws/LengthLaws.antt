-- The bits of segments are as many as their cost.
use Rattle.std.proofs.Common.{◌≡◌, ℕ, ◌+◌, ◌*◌, ◌/◌, ◌≤◌, List, [], ◌∷◌, ◌++◌, take, drop, length, refl, length-append}
use Rattle.std.proofs.Common.{ap, ◌∙◌, arith}
use Rattle.std.proofs.lemmas.List.{length-take-le}
use Rattle.std.proofs.lemmas.List.Sums.{sum_by-cons}
use Rattle.qrdata.specs.declared.mode.Mode.{Mode}
use Rattle.qrdata.specs.declared.mode.Mode.TheVariants.{Numeric, Alphanumeric, Byte}
use Rattle.qrdata.specs.declared.mode.Segment.{Segment}
use Rattle.qrdata.specs.Bits.{bits_of}
use Rattle.qrdata.specs.Segments.{IsSegmentation, alphanumeric_bits, alphanumeric_value, cost, count_width, digit_value}
use Rattle.qrdata.specs.Segments.{mode_indicator, numeric_bits, payload_bits, payload_length, segment_bits}
use Rattle.qrdata.specs.Segments.{segment_length, segment_of, segments_bits}
use Rattle.qrdata.proofs.Laws.BitStringLaws.{length-bits_of}
use Rattle.qrdata.proofs.Laws.PaddingLaws.{length-byte_bits}

length-numeric_bits : (digits : List ℕ) → length (numeric_bits digits) ≡ (10 * length digits + 2) / 3
unfolding numeric_bits
length-numeric_bits [] = refl
length-numeric_bits (a ∷ []) = length-bits_of 4 (digit_value a)
length-numeric_bits (a ∷ b ∷ []) = length-bits_of 7 (10 * digit_value a + digit_value b)
length-numeric_bits (a ∷ b ∷ c ∷ digits) =
    let first = bits_of 10 (100 * digit_value a + 10 * digit_value b + digit_value c) in
    let ten : length first ≡ 10 = length-bits_of 10 (100 * digit_value a + 10 * digit_value b + digit_value c) in
    omega (arith, length-numeric_bits digits, length-append first (numeric_bits digits))

length-alphanumeric_bits : (cs : List ℕ) → length (alphanumeric_bits cs) ≡ (11 * length cs + 1) / 2
unfolding alphanumeric_bits
length-alphanumeric_bits [] = refl
length-alphanumeric_bits (a ∷ []) = length-bits_of 6 (alphanumeric_value a)
length-alphanumeric_bits (a ∷ b ∷ cs) =
    let first = bits_of 11 (45 * alphanumeric_value a + alphanumeric_value b) in
    let eleven : length first ≡ 11 = length-bits_of 11 (45 * alphanumeric_value a + alphanumeric_value b) in
    omega (arith, length-alphanumeric_bits cs, length-append first (alphanumeric_bits cs))

pub length-payload_bits : (mode : Mode) (bytes : List ℕ)
    → length (payload_bits mode bytes) ≡ payload_length mode (length bytes)
length-payload_bits Numeric bytes = length-numeric_bits bytes
length-payload_bits Alphanumeric bytes = length-alphanumeric_bits bytes
length-payload_bits Byte bytes = length-byte_bits bytes

length-segment_bits : (version : ℕ) (mode : Mode) (bytes : List ℕ)
    → length (segment_bits version mode bytes) ≡ 4 + count_width version mode + payload_length mode (length bytes)
length-segment_bits version mode bytes =
    let indicator = bits_of 4 (mode_indicator mode) in
    let count = bits_of (count_width version mode) (length bytes) in
    let payload = payload_bits mode bytes in
    omega (
      arith,
      length-append (indicator ++ count) payload,
      length-append indicator count,
      length-bits_of 4 (mode_indicator mode),
      length-bits_of (count_width version mode) (length bytes),
      length-payload_bits mode bytes,
    )

-- the bits of a segment of the first bytes
pub length-segment_bits_front : (version : ℕ) (mode : Mode) (n : ℕ) (bytes : List ℕ) → n ≤ length bytes
    → length (segment_bits version mode (take n bytes)) ≡ 4 + count_width version mode + payload_length mode n
length-segment_bits_front version mode n bytes h =
    length-segment_bits version mode (take n bytes)
    ∙ ap (λ k. 4 + count_width version mode + payload_length mode k) (length-take-le n bytes h)

pub length-segments_bits : (version : ℕ) (segments : List Segment) (bytes : List ℕ)
    → IsSegmentation version segments bytes → length (segments_bits version segments bytes) ≡ cost version segments
unfolding segments_bits
length-segments_bits version [] bytes cut = refl
length-segments_bits version (s ∷ segments) bytes cut =
    let front = take s.len bytes in
    omega (
      arith,
      length-append (segment_bits version s.mode front) (segments_bits version segments (drop s.len bytes)),
      length-segment_bits_front version s.mode s.len bytes cut.0.inside,
      length-segments_bits version segments (drop s.len bytes) cut.1,
      sum_by-cons (segment_length version) s segments,
    )

-- each segment has bits
pub count_below_cost : (version : ℕ) (segments : List Segment) → length segments ≤ cost version segments
count_below_cost version [] = omega arith
count_below_cost version (s ∷ segments) =
    omega (arith, count_below_cost version segments, sum_by-cons (segment_length version) s segments)

-- what a list of segments is read as past its end
abbrev pub default_segment : Segment
default_segment = segment_of Numeric 0
