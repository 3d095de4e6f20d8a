-- Data that the codewords of a symbol are read as fits the symbol in some segments (ISO/IEC 18004, 12).
use Rattle.std.proofs.Common.{◌≡◌, ℕ, zero, suc, ◌+◌, ◌*◌, ◌/◌, ◌%◌, ◌^◌, ◌<◌, ◌≤◌, List, [], ◌∷◌, ◌++◌, length, take}
use Rattle.std.proofs.Common.{drop, refl, sym, ap, ◌∙◌, subst, arith, Bool, true, false, Some, None, get_or, map}
use Rattle.std.proofs.Common.{leb-false, ltb-false, length-append, if◌then◌else◌}
use Rattle.std.specs.Prelude.{◌==◌, ◌||◌, nat_le, nat_lt, IsTrue, option_and_then, slice_index, sum}
use Rattle.std.specs.Char.{is_ascii_digit}
use Rattle.std.specs.List.{concat, find, list_all, range_with_len}
use Rattle.std.proofs.lemmas.Bool.{agree_below, agree_below_at, le-leb}
use Rattle.std.proofs.lemmas.List.{length-drop, take_at, drop_at}
use Rattle.std.proofs.lemmas.List.FromFn.{length-map-range_with_len}
use Rattle.std.proofs.lemmas.List.Sums.{sum_by-cons}
use Rattle.std.proofs.lemmas.Option.{none-some, option_and_then_some, same_Some}
use Rattle.labelcore.specs.declared.level.Level.{Level}
use Rattle.qrdata.specs.declared.mode.Mode.{Mode}
use Rattle.qrdata.specs.declared.mode.Mode.TheVariants.{Numeric, Alphanumeric, Byte}
use Rattle.qrdata.specs.declared.mode.Segment.{Segment}
use Rattle.qrdata.specs.Fewest.{NoneFits}
use Rattle.qrdata.specs.Bits.{number_of}
use Rattle.qrdata.specs.Reading.{alphanumeric_character, bytes_at, characters_at, data_in, deinterleaving, digits_at}
use Rattle.qrdata.specs.Reading.{interleaving_place}
use Rattle.qrdata.specs.Reading.{is_end, number_at, payload_at, segment_at, segments_at}
use Rattle.qrdata.specs.Segments.{IsSegmentation, alphanumeric_characters, alphanumeric_value, byte_bits, cost, count_width}
use Rattle.qrdata.specs.Segments.{has_character, mode_indicator, modes, payload_length, segment_length, segment_of}
use Rattle.qrdata.specs.Versions.{block_lengths, data_codewords}
use Rattle.qrdata.proofs.Laws.DataReadingLaws.{lengths_hold}
use Rattle.qrdata.proofs.Laws.PaddingLaws.{length-byte_bits}

-- ---- numbers

-- a number that is read is below its limit, and has its bits
record IsNumber (limit width : ℕ) (bits : List Bool) (found : ℕ × List Bool) : Type 0 where
  below : found.0 < limit
  long : length bits ≡ width + length found.1

number_read : (limit width : ℕ) (bits : List Bool) (found : ℕ × List Bool) → number_at limit width bits ≡ Some found
    → IsNumber limit width bits found
unfolding number_at
number_read limit width bits found e =
    at (nat_lt (length bits) width) (nat_le limit (number_of (take width bits))) refl refl e
  where
    at : (short high : Bool) → nat_lt (length bits) width ≡ short → nat_le limit (number_of (take width bits)) ≡ high
        → (if short || high then None else Some (number_of (take width bits), drop width bits)) ≡ Some found
        → IsNumber limit width bits found
    at true high s h is = absurd (none-some found is)
    at false true s h is = absurd (none-some found is)
    at false false s h is =
        let same = same_Some (number_of (take width bits), drop width bits) found is in
        subst (IsNumber limit width bits) same (record {
          below = leb-false limit _ h;
          long = omega (arith, ltb-false (length bits) width s, length-drop width bits);
        })

-- ---- payloads

-- a payload that is read has as many characters, each of its mode, and their bits
record IsPayload (mode : Mode) (count : ℕ) (bits : List Bool) (found : List ℕ × List Bool) : Type 0 where
  count_is : length found.0 ≡ count
  characters : list_all (has_character mode) found.0 ≡ true
  long : length bits ≡ payload_length mode count + length found.1

is_digit : (n : ℕ) → n < 10 → is_ascii_digit (48 + n) ≡ true
is_digit n below = rw (le-leb 48 (48 + n) (omega arith), le-leb (48 + n) 57 (omega arith)) refl

digits_read : (count : ℕ) (bits : List Bool) (found : List ℕ × List Bool) → digits_at count bits ≡ Some found
    → IsPayload Numeric count bits found
unfolding digits_at
digits_read zero bits found e =
    subst (IsPayload Numeric 0 bits) (same_Some ([], bits) found e) (record {
      count_is = refl;
      characters = refl;
      long = omega arith;
    })
digits_read (suc zero) bits found e = option_and_then_some _ (number_at 10 4 bits) found e (λ n is same.
    let number = number_read 10 4 bits n is in
    subst (IsPayload Numeric 1 bits) (same_Some _ found same) (record {
      count_is = refl;
      characters = rw (is_digit n.0 number.below) refl;
      long = omega (arith, number.long);
    }))
digits_read (suc (suc zero)) bits found e = option_and_then_some _ (number_at 100 7 bits) found e (λ n is same.
    let number = number_read 100 7 bits n is in
    subst (IsPayload Numeric 2 bits) (same_Some _ found same) (record {
      count_is = refl;
      characters = rw (
        is_digit (n.0 / 10) (omega (arith, number.below)),
        is_digit (n.0 % 10) (omega arith),
      ) refl;
      long = omega (arith, number.long);
    }))
digits_read (suc (suc (suc count))) bits found e =
    option_and_then_some _ (number_at 1000 10 bits) found e (λ n is after.
    option_and_then_some _ (digits_at count n.1) found after (λ others rest same.
    let number = number_read 1000 10 bits n is in
    let later = digits_read count n.1 others rest in
    subst (IsPayload Numeric (suc (suc (suc count))) bits) (same_Some _ found same) (record {
      count_is = ap (λ k. suc (suc (suc k))) later.count_is;
      characters = rw (
        is_digit (n.0 / 100) (omega (arith, number.below)),
        is_digit (n.0 / 10 % 10) (omega arith),
        is_digit (n.0 % 10) (omega arith),
      ) later.characters;
      long = omega (arith, number.long, later.long);
    })))

abbrev is_character : ℕ → Bool
is_character value = nat_lt (alphanumeric_value (alphanumeric_character value)) 45

all_characters : agree_below is_character (λ value. true) 45 ≡ true
unfolding alphanumeric_value alphanumeric_characters
all_characters = refl

is_alphanumeric : (value : ℕ) → value < 45 → has_character Alphanumeric (alphanumeric_character value) ≡ true
is_alphanumeric value below = agree_below_at is_character (λ value. true) 45 value all_characters below

characters_read : (count : ℕ) (bits : List Bool) (found : List ℕ × List Bool) → characters_at count bits ≡ Some found
    → IsPayload Alphanumeric count bits found
unfolding characters_at
characters_read zero bits found e =
    subst (IsPayload Alphanumeric 0 bits) (same_Some ([], bits) found e) (record {
      count_is = refl;
      characters = refl;
      long = omega arith;
    })
characters_read (suc zero) bits found e = option_and_then_some _ (number_at 45 6 bits) found e (λ n is same.
    let number = number_read 45 6 bits n is in
    subst (IsPayload Alphanumeric 1 bits) (same_Some _ found same) (record {
      count_is = refl;
      characters = rw (is_alphanumeric n.0 number.below) refl;
      long = omega (arith, number.long);
    }))
characters_read (suc (suc count)) bits found e =
    option_and_then_some _ (number_at 2025 11 bits) found e (λ n is after.
    option_and_then_some _ (characters_at count n.1) found after (λ others rest same.
    let number = number_read 2025 11 bits n is in
    let later = characters_read count n.1 others rest in
    subst (IsPayload Alphanumeric (suc (suc count)) bits) (same_Some _ found same) (record {
      count_is = ap (λ k. suc (suc k)) later.count_is;
      characters = rw (
        is_alphanumeric (n.0 / 45) (omega (arith, number.below)),
        is_alphanumeric (n.0 % 45) (omega arith),
      ) later.characters;
      long = omega (arith, number.long, later.long);
    })))

bytes_read : (count : ℕ) (bits : List Bool) (found : List ℕ × List Bool) → bytes_at count bits ≡ Some found
    → IsPayload Byte count bits found
unfolding bytes_at
bytes_read zero bits found e =
    subst (IsPayload Byte 0 bits) (same_Some ([], bits) found e) (record {
      count_is = refl;
      characters = refl;
      long = omega arith;
    })
bytes_read (suc count) bits found e = option_and_then_some _ (number_at 256 8 bits) found e (λ n is after.
    option_and_then_some _ (bytes_at count n.1) found after (λ others rest same.
    let number = number_read 256 8 bits n is in
    let later = bytes_read count n.1 others rest in
    subst (IsPayload Byte (suc count) bits) (same_Some _ found same) (record {
      count_is = ap suc later.count_is;
      characters = later.characters;
      long = omega (arith, number.long, later.long);
    })))

payload_read : (mode : Mode) (count : ℕ) (bits : List Bool) (found : List ℕ × List Bool)
    → payload_at mode count bits ≡ Some found → IsPayload mode count bits found
payload_read Numeric count bits found e = digits_read count bits found e
payload_read Alphanumeric count bits found e = characters_read count bits found e
payload_read Byte count bits found e = bytes_read count bits found e

-- ---- segments

-- the segment of a payload that is read
record IsSegment (version : ℕ) (bits : List Bool) (found : List ℕ × List Bool) : Type 0 where
  mode : Mode
  counted : length found.0 < 2 ^ count_width version mode
  characters : list_all (has_character mode) found.0 ≡ true
  long : length bits ≡ 4 + count_width version mode + payload_length mode (length found.0) + length found.1

segment_read : (version : ℕ) (bits : List Bool) (found : List ℕ × List Bool) → segment_at version bits ≡ Some found
    → IsSegment version bits found
unfolding segment_at
segment_read version bits found e =
    option_and_then_some _ (number_at 16 4 bits) found e (λ indicator first after.
    option_and_then_some _ (find (λ mode. mode_indicator mode == indicator.0) modes) found after (λ mode named later.
    let width = count_width version mode in
    option_and_then_some _ (number_at (2 ^ width) width indicator.1) found later (λ count counted last.
    let one = number_read 16 4 bits indicator first in
    let two = number_read (2 ^ width) width indicator.1 count counted in
    let payload = payload_read mode count.0 count.1 found last in
    record {
      mode = mode;
      counted = subst (λ n. n < 2 ^ width) (sym payload.count_is) two.below;
      characters = payload.characters;
      long = subst (λ n. length bits ≡ 4 + width + payload_length mode n + length found.1) (sym payload.count_is)
          (omega (arith, one.long, two.long, payload.long));
    })))

-- bytes have segments of at most so many bits
record Fits (version : ℕ) (bytes : List ℕ) (most : ℕ) : Type 0 where
  segments : List Segment
  cut : IsSegmentation version segments bytes
  few : cost version segments ≤ most

nothing_fits : (version most : ℕ) (bytes : List ℕ) → [] ≡ bytes → Fits version bytes most
nothing_fits version most bytes none =
    record { segments = []; cut = sym none; few = omega arith }

-- one segment more
more_fits : (version : ℕ) (bits : List Bool) (first : List ℕ × List Bool) (others : List ℕ) → IsSegment version bits first
    → Fits version others (length first.1) → Fits version (first.0 ++ others) (length bits)
more_fits version bits ([], rest) others one later = record {
  segments = later.segments;
  cut = later.cut;
  few = omega (arith, one.long, later.few);
}
more_fits version bits (byte ∷ bytes, rest) others one later =
    let payload = byte ∷ bytes in
    let front = take_at payload others (length payload) refl in
    record {
      segments = segment_of one.mode (length payload) ∷ later.segments;
      cut = (
        record {
          some = omega arith;
          inside = omega (arith, length-append payload others);
          characters = subst (λ l. IsTrue (list_all (has_character one.mode) l)) (sym front) one.characters;
          counted = one.counted;
        },
        subst (IsSegmentation version later.segments) (sym (drop_at payload others (length payload) refl)) later.cut,
      );
      few = omega (
        arith,
        sum_by-cons (segment_length version) (segment_of one.mode (length payload)) later.segments,
        one.long,
        later.few,
      );
    }

segments_read : (version n : ℕ) (bits : List Bool) (bytes : List ℕ) → segments_at version n bits ≡ Some bytes
    → Fits version bytes (length bits)
unfolding segments_at
segments_read version zero bits bytes e = at (is_end bits) e
  where
    at : (b : Bool) → (if b then Some [] else None) ≡ Some bytes → Fits version bytes (length bits)
    at true is = nothing_fits version (length bits) bytes (same_Some [] bytes is)
    at false is = absurd (none-some bytes is)
segments_read version (suc n) bits bytes e =
    at (λ later others rest. segments_read version n later others rest) (is_end bits) e
  where
    at : ((later : List Bool) (others : List ℕ) → segments_at version n later ≡ Some others
        → Fits version others (length later))
        → (b : Bool) → (if b then Some [] else option_and_then (λ (first : List ℕ × List Bool).
        option_and_then (λ others. Some (first.0 ++ others)) (segments_at version n first.1)) (segment_at version bits))
        ≡ Some bytes → Fits version bytes (length bits)
    at fits true is = nothing_fits version (length bits) bytes (same_Some [] bytes is)
    at fits false is =
        option_and_then_some _ (segment_at version bits) bytes is (λ first found after.
        option_and_then_some _ (segments_at version n first.1) bytes after (λ others rest same.
        subst (λ l. Fits version l (length bits)) (same_Some (first.0 ++ others) bytes same)
        (more_fits version bits first others (segment_read version bits first found)
        (fits first.1 others rest))))

-- ---- codewords

-- pieces of these lengths, joined
joined : (lengths : List ℕ) (f : ℕ → List ℕ) (a : ℕ)
    → ((b p : ℕ) → p ≡ a + b → b < length lengths → length (f p) ≡ get_or lengths b 0)
    → length (concat (map f (range_with_len a (length lengths)))) ≡ sum lengths
joined [] f a h = refl
joined (n ∷ lengths) f a h = omega (
  arith,
  sum_by-cons (λ n. n) n lengths,
  length-append (f a) (concat (map f (range_with_len (a + 1) (length lengths)))),
  h 0 a (omega arith) (omega arith),
  joined lengths f (a + 1) (λ b p e below. h (suc b) p (omega (arith, e)) (omega (arith, below))),
)

-- the data codewords that are taken back to their blocks are as many as the lengths say
length-deinterleaving : (lengths codewords : List ℕ) → length (concat (deinterleaving lengths codewords)) ≡ sum lengths
unfolding deinterleaving
length-deinterleaving lengths codewords =
    let codeword = λ (b i : ℕ). slice_index codewords (interleaving_place lengths b i) in
    joined lengths (λ b. map (codeword b) (range_with_len 0 (slice_index lengths b))) 0 (λ b p e below.
    let place : p ≡ b = omega (arith, e) in
    length-map-range_with_len (codeword p) 0 (get_or lengths p 0) ∙ ap (λ k. get_or lengths k 0) place)

-- data that no segments of a version fit is not what codewords of the version are read as
pub unread-none_fits : (version : ℕ) (level : Level) (bytes : List ℕ) → NoneFits version level bytes
    → (codewords : List ℕ) → data_in version level codewords ≡ Some bytes → ⊥
unfolding data_in
unread-none_fits version level bytes none codewords e =
    let all = concat (deinterleaving (block_lengths version level) (take (data_codewords version level) codewords)) in
    let fits = at _ e in
    omega (
      arith,
      none fits.segments fits.cut,
      fits.few,
      length-byte_bits all,
      length-deinterleaving (block_lengths version level) (take (data_codewords version level) codewords),
      (lengths_hold version level).0,
    )
  where
    at : (b : Bool) → (if b then segments_at version (8 * data_codewords version level)
        (byte_bits (concat (deinterleaving (block_lengths version level) (take (data_codewords version level) codewords))))
        else None) ≡ Some bytes
        → Fits version bytes (length (byte_bits (concat (deinterleaving (block_lengths version level)
        (take (data_codewords version level) codewords)))))
    at true is = segments_read version (8 * data_codewords version level) _ bytes is
    at false is = absurd (none-some bytes is)
