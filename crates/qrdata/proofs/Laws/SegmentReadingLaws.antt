-- Segments are read back, and reading stops where they end.
use Rattle.std.proofs.Common.{◌≡◌, ℕ, zero, suc, ◌^◌, ◌<◌, ◌≤◌, List, [], ◌∷◌, ◌++◌, take, drop, length, refl}
use Rattle.std.proofs.Common.{append_assoc, length-append, arith, Bool, true, false}
use Rattle.std.specs.Prelude.{Some, ◌==◌}
use Rattle.std.specs.List.{find, list_all}
use Rattle.std.proofs.Math.Nat.{mod-eq_of_lt}
use Rattle.std.proofs.lemmas.Bool.Decides.{nat_tests}
use Rattle.std.proofs.lemmas.List.{take-append-drop, length-take-le, take_at}
use Rattle.qrdata.specs.declared.mode.Mode.{Mode}
use Rattle.qrdata.specs.declared.mode.Mode.TheVariants.{Numeric, Alphanumeric, Byte}
use Rattle.qrdata.specs.declared.mode.Segment.{Segment}
use Rattle.qrdata.specs.Bits.{bits_of, number_of}
use Rattle.qrdata.specs.Segments.{IsSegmentation, count_width, has_character, mode_indicator, modes, payload_bits}
use Rattle.qrdata.specs.Segments.{segment_bits, segments_bits}
use Rattle.qrdata.specs.Reading.{is_end, segment_at, segments_at}
use Rattle.qrdata.proofs.Laws.BitStringLaws.{number_at-bits_of, number_of-bits_of, length-bits_of}
use Rattle.labelcore.proofs.Laws.KeptLaws.{AreBytes}
use Rattle.qrdata.proofs.Laws.PayloadLaws.{payload_at-payload_bits}

indicator_range : (mode : Mode) → (0 < mode_indicator mode) × (mode_indicator mode < 16)
indicator_range Numeric = (omega arith, omega arith)
indicator_range Alphanumeric = (omega arith, omega arith)
indicator_range Byte = (omega arith, omega arith)

mode_named-indicator : (mode : Mode) → find (λ m. mode_indicator m == mode_indicator mode) modes ≡ Some mode
mode_named-indicator Numeric = refl
mode_named-indicator Alphanumeric = refl
mode_named-indicator Byte = refl

pub segment_at-segment_bits : (version : ℕ) (mode : Mode) (bytes : List ℕ) (rest : List Bool)
    → AreBytes bytes → list_all (has_character mode) bytes ≡ true → length bytes < 2 ^ count_width version mode
    → segment_at version (segment_bits version mode bytes ++ rest) ≡ Some (bytes, rest)
unfolding segment_at
segment_at-segment_bits version mode bytes rest w h fits =
    let below = (indicator_range mode).1 in
    let payload = payload_bits mode bytes ++ rest in
    let count = bits_of (count_width version mode) (length bytes) in
    rw (
      append_assoc (bits_of 4 (mode_indicator mode) ++ count) (payload_bits mode bytes) rest,
      append_assoc,
      number_at-bits_of 16 4 (mode_indicator mode) (count ++ payload) below below,
      mode_named-indicator mode,
      number_at-bits_of (2 ^ count_width version mode) (count_width version mode) (length bytes) payload fits fits,
    )
    (payload_at-payload_bits mode bytes rest w h)

pub not_end : (bits : List Bool) → 4 ≤ length bits → 0 < number_of (take 4 bits) → is_end bits ≡ false
not_end bits long high = grind (arith, nat_tests)

-- a segment does not begin with four zeros
is_end-segment_bits : (version : ℕ) (mode : Mode) (bytes : List ℕ) (rest : List Bool)
    → is_end (segment_bits version mode bytes ++ rest) ≡ false
is_end-segment_bits version mode bytes rest =
    let count = bits_of (count_width version mode) (length bytes) in
    let after = count ++ (payload_bits mode bytes ++ rest) in
    let indicator = bits_of 4 (mode_indicator mode) in
    let four : length indicator ≡ 4 = length-bits_of 4 (mode_indicator mode) in
    let long : 4 ≤ length (indicator ++ after) = omega (arith, length-append indicator after) in
    let value : number_of (take 4 (indicator ++ after)) ≡ mode_indicator mode =
    rw (take_at indicator after 4 four, number_of-bits_of 4 (mode_indicator mode))
    (mod-eq_of_lt (indicator_range mode).1) in
    rw (append_assoc (indicator ++ count) (payload_bits mode bytes) rest, append_assoc)
    (not_end (indicator ++ after) long (omega (arith, (indicator_range mode).0)))

segments_at-end : (version n : ℕ) (bits : List Bool) → is_end bits ≡ true → segments_at version n bits ≡ Some []
unfolding segments_at
segments_at-end version zero bits h = rw h refl
segments_at-end version (suc n) bits h = rw h refl

pub AreBytes-take : (n : ℕ) (bytes : List ℕ) → AreBytes bytes → AreBytes (take n bytes)
AreBytes-take zero bytes w = tt
AreBytes-take (suc n) [] w = tt
AreBytes-take (suc n) (b ∷ bytes) w = (w.0, AreBytes-take n bytes w.1)

pub AreBytes-drop : (n : ℕ) (bytes : List ℕ) → AreBytes bytes → AreBytes (drop n bytes)
AreBytes-drop zero bytes w = w
AreBytes-drop (suc n) [] w = tt
AreBytes-drop (suc n) (b ∷ bytes) w = AreBytes-drop n bytes w.1

-- the segments of the data, followed by what ends them, are read as the data
-- each turn of the induction shortens the segments, the bytes and n, and so changes three of the facts on them;
-- data_in-symbol_codewords begins it with all the segments of a symbol
pub segments_at-segments_bits : (version : ℕ) (segments : List Segment) (bytes : List ℕ) (n : ℕ) (rest : List Bool)
    → AreBytes bytes → IsSegmentation version segments bytes → length segments ≤ n → is_end rest ≡ true
    → segments_at version n (segments_bits version segments bytes ++ rest) ≡ Some bytes
unfolding segments_at segments_bits
segments_at-segments_bits version [] bytes n rest w e h stop = rw (segments_at-end version n rest stop, e) refl
segments_at-segments_bits version (s ∷ segments) bytes zero rest w cut h stop = absurd (omega arith)
segments_at-segments_bits version (s ∷ segments) bytes (suc n) rest w cut h stop =
    let front = take s.len bytes in
    let others = segments_bits version segments (drop s.len bytes) ++ rest in
    let front_length : length front ≡ s.len = length-take-le s.len bytes cut.0.inside in
    let fits : length front < 2 ^ count_width version s.mode = rw front_length cut.0.counted in
    let first = segment_at-segment_bits version s.mode front others (AreBytes-take s.len bytes w) cut.0.characters
    fits in
    let later = segments_at-segments_bits version segments (drop s.len bytes) n rest (AreBytes-drop s.len bytes w) cut.1
    (omega arith) stop in
    rw (
      append_assoc (segment_bits version s.mode front) (segments_bits version segments (drop s.len bytes)) rest,
      is_end-segment_bits version s.mode front others,
      first,
      later,
      take-append-drop,
    )
    refl
