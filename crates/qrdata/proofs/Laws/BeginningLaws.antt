-- Codewords with bits that no data begins with are not read.
use Rattle.std.proofs.Common.{◌≡◌, ℕ, zero, suc, ◌*◌, ◌^◌, ◌<◌, ◌≤◌, List, ◌∷◌, ◌++◌, take, drop, length, refl}
use Rattle.std.proofs.Common.{length-append, arith, Bool, true, false, Option, Some, None, inl, inr}
use Rattle.std.specs.Prelude.{if◌then◌else◌, nat_lt, nat_le, ◌||◌, ◌==◌, option_and_then}
use Rattle.std.specs.List.{concat, find}
use Rattle.std.proofs.Math.Nat.{mod-eq_of_lt}
use Rattle.std.proofs.lemmas.Bool.{cases_lt, lt-ltb}
use Rattle.std.proofs.lemmas.List.{length-drop, take_at, drop_at}
use Rattle.labelcore.specs.declared.level.Level.{Level}
use Rattle.labelcore.specs.declared.level.Level.TheVariants.{L, M, Q, H}
use Rattle.qrdata.specs.declared.mode.Mode.TheVariants.{Alphanumeric}
use Rattle.qrdata.specs.Bits.{bits_of, codewords_of, number_of}
use Rattle.qrdata.specs.Reading.{characters_at, data_in, deinterleaving, is_end, number_at, segment_at, segments_at}
use Rattle.qrdata.specs.Segments.{byte_bits, count_width, mode_indicator, modes}
use Rattle.qrdata.specs.Versions.{block_lengths, block_table, data_codewords, groups_of}
use Rattle.qrdata.proofs.Laws.BitStringLaws.{length-bits_of, number_at-bits_of, number_of-bits_of}
use Rattle.qrdata.proofs.Laws.PaddingLaws.{eight_bits, length-byte_bits}
use Rattle.qrdata.proofs.Laws.SegmentReadingLaws.{not_end}

-- a step that finds nothing, or nothing after it
nothing : {A B : Type 0} (f : A → Option B) (x : A) (b : Bool) → f x ≡ None
    → option_and_then f (if b then None else Some x) ≡ None
nothing f x true none = refl
nothing f x false none = none

-- more characters than there are bits
no_characters : (count : ℕ) (bits : List Bool) → length bits < count → characters_at count bits ≡ None
unfolding characters_at number_at
no_characters zero bits few = absurd (omega arith)
no_characters (suc zero) bits few = rw (lt-ltb (length bits) 6 (omega arith)) refl
no_characters (suc (suc count)) bits few =
    elim (cases_lt (length bits) 11) [
      | inl short ↦ rw (lt-ltb (length bits) 11 short) refl
      | inr enough ↦
          let n = number_of (take 11 bits) in
          let later = no_characters count (drop 11 bits) (omega (arith, length-drop 11 bits)) in
          nothing _ (n, drop 11 bits) (nat_lt (length bits) 11 || nat_le 2025 n) (rw later refl)
    ]

no_segments : (version n : ℕ) (bits : List Bool) → is_end bits ≡ false → segment_at version bits ≡ None
    → segments_at version n bits ≡ None
unfolding segments_at
no_segments version zero bits goes_on none = rw goes_on refl
no_segments version (suc n) bits goes_on none = rw (goes_on, none) refl

-- bits that begin with an indicator are not at their end
goes_on : (indicator : ℕ) (rest : List Bool) → 0 < indicator → indicator < 16
    → is_end (bits_of 4 indicator ++ rest) ≡ false
goes_on indicator rest some below =
    let front = bits_of 4 indicator in
    let four : length front ≡ 4 = length-bits_of 4 indicator in
    let value : number_of (take 4 (front ++ rest)) ≡ indicator =
    rw (take_at front rest 4 four, number_of-bits_of 4 indicator) (mod-eq_of_lt below) in
    not_end (front ++ rest) (omega (arith, length-append front rest)) (omega (arith, value))

-- an indicator of no mode
pub no_mode : (version n indicator : ℕ) (rest : List Bool) → 0 < indicator → indicator < 16
    → find (λ mode. mode_indicator mode == indicator) modes ≡ None
    → segments_at version n (bits_of 4 indicator ++ rest) ≡ None
unfolding segment_at
no_mode version n indicator rest some below none =
    no_segments version n (bits_of 4 indicator ++ rest) (goes_on indicator rest some below)
    (rw (number_at-bits_of 16 4 indicator rest below below, none) refl)

-- more alphanumeric characters than there are bits
pub too_many : (version n count : ℕ) (rest : List Bool) → count < 2 ^ count_width version Alphanumeric
    → length rest < count
    → segments_at version n (bits_of 4 2 ++ (bits_of (count_width version Alphanumeric) count ++ rest)) ≡ None
unfolding segment_at
too_many version n count rest counted few =
    let width = count_width version Alphanumeric in
    let after = bits_of width count ++ rest in
    no_segments version n (bits_of 4 2 ++ after) (goes_on 2 after (omega arith) (omega arith))
    (rw (
      number_at-bits_of 16 4 2 after (omega arith) (omega arith),
      number_at-bits_of (2 ^ width) width count rest counted counted,
    ) (no_characters count rest few))

-- ---- version 1

-- the data codewords that are read of a symbol of version 1, whose only block they are
abbrev read_codewords : Level → List ℕ → List ℕ
read_codewords level codewords =
    concat (deinterleaving (block_lengths 1 level) (take (data_codewords 1 level) codewords))

-- they begin with the first two, and 17 at most follow
begin_with : (level : Level) (a b : ℕ) (codewords : List ℕ) → (rest : List ℕ) × (length rest ≤ 17)
    × (read_codewords level (a ∷ b ∷ codewords) ≡ a ∷ b ∷ rest)
unfolding deinterleaving block_lengths block_table data_codewords groups_of
begin_with L a b codewords = (drop 2 (read_codewords L (a ∷ b ∷ codewords)), omega arith, refl)
begin_with M a b codewords = (drop 2 (read_codewords M (a ∷ b ∷ codewords)), omega arith, refl)
begin_with Q a b codewords = (drop 2 (read_codewords Q (a ∷ b ∷ codewords)), omega arith, refl)
begin_with H a b codewords = (drop 2 (read_codewords H (a ∷ b ∷ codewords)), omega arith, refl)

two_codewords : (n : ℕ) (first second after : List Bool) → length first ≡ 8 → length second ≡ 8
    → codewords_of (suc (suc n)) (first ++ (second ++ after)) ≡ number_of first ∷ number_of second ∷ codewords_of n after
unfolding codewords_of
two_codewords n first second after e f =
    rw (
      take_at first (second ++ after) 8 e,
      drop_at first (second ++ after) 8 e,
      take_at second after 8 f,
      drop_at second after 8 f,
    ) refl

byte_bits-two : (a b : ℕ) (rest : List ℕ) → byte_bits (a ∷ b ∷ rest) ≡ bits_of 8 a ++ (bits_of 8 b ++ byte_bits rest)
unfolding byte_bits
byte_bits-two a b rest = refl

if_none : {A : Type 0} (b : Bool) (x : Option A) → x ≡ None → (if b then x else None) ≡ None
if_none true x none = none
if_none false x none = refl

-- Where no data is read of 16 bits and at most 136 others, none is read of the codewords of a symbol of version 1 whose
-- bits begin with the 16.
pub unread_beginning : (level : Level) (first second after : List Bool) → length first ≡ 8 → length second ≡ 8
    → ((n : ℕ) (rest : List Bool) → length rest ≤ 136 → segments_at 1 n (first ++ (second ++ rest)) ≡ None)
    → data_in 1 level (codewords_of 26 (first ++ (second ++ after))) ≡ None
unfolding data_in
unread_beginning level first second after e f none =
    let codewords = codewords_of 24 after in
    let begin = begin_with level (number_of first) (number_of second) codewords in
    let read : segments_at 1 (8 * data_codewords 1 level) (byte_bits (read_codewords level
    (number_of first ∷ number_of second ∷ codewords))) ≡ None =
    rw (
      begin.2,
      byte_bits-two (number_of first) (number_of second) begin.0,
      eight_bits first e,
      eight_bits second f,
    ) (none (8 * data_codewords 1 level) (byte_bits begin.0) (omega (arith, length-byte_bits begin.0, begin.1))) in
    rw (two_codewords 24 first second after e f) (if_none _ _ read)
