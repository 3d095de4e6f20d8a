-- The best of all choices of some bytes comes no later than any first segment, and is one.
use Rattle.std.proofs.Common.{◌≡◌, ℕ, ◌+◌, ◌*◌, ◌%◌, ◌<◌, ◌≤◌, List, [], ◌∷◌, drop, length, refl, arith, true, false}
use Rattle.std.proofs.Common.{inl, inr, cond, ◌⊎◌}
use Rattle.std.specs.Prelude.{nat_lt}
use Rattle.std.proofs.lemmas.Bool.{cases_lt, le-ltb, lt-ltb}
use Rattle.std.proofs.lemmas.List.Sums.{sum_by-cons}
use Rattle.qrdata.specs.declared.mode.Mode.{Mode}
use Rattle.qrdata.specs.declared.mode.Mode.TheVariants.{Numeric, Alphanumeric, Byte}
use Rattle.qrdata.specs.declared.mode.Segment.{Segment}
use Rattle.qrdata.specs.Private.ChoiceView.{ChoiceView}
use Rattle.qrdata.specs.declared.segmentation.Choices.{Choices}
use Rattle.qrdata.specs.declared.segmentation.TheConstants.{ABSENT}
use Rattle.qrdata.specs.Segments.{IsSegmentation, alphanumeric_value, cost, segment_length, segment_of}
use Rattle.qrdata.specs.Private.Table.{Each, absent_characters, absent_digits, best_choice, better_choice, byte_choices}
use Rattle.qrdata.specs.Private.Table.{choices_of, fewest_bits, longer_choice, next_characters, next_choices}
use Rattle.qrdata.specs.Private.Table.{next_digits, short_choice}
use Rattle.qrdata.proofs.Laws.CharacterLaws.{no_digit}
use Rattle.qrdata.proofs.ChoiceOrderLaws.{Beats, better-left, better-one, better-right}
use Rattle.qrdata.proofs.ChoiceClassLaws.{IsClass, IsClass-kept, IsRun, each_choice, total}

-- the best choice of a byte and a rest is the best of its choices
best_is : (version b : ℕ) (bytes : List ℕ)
    → (choices_of version (b ∷ bytes)).best
    ≡ best_choice (choices_of version (b ∷ bytes)).digits (choices_of version (b ∷ bytes)).characters
    (choices_of version (b ∷ bytes)).bytes
unfolding choices_of next_choices
best_is version b bytes = refl

best_beats : (version : ℕ) (bytes : List ℕ) (choices : Choices) → Each (IsClass version bytes) choices
    → (mode : Mode) (n : ℕ) → IsRun mode bytes n
    → Beats (best_choice choices.digits choices.characters choices.bytes) (total version bytes mode n) n
unfolding best_choice
best_beats version bytes choices are Numeric n run = better-left _ (better-left _ (elim (cases_lt (n % 3) 1) [
  | inl none ↦ better-left _ (better-left _ (are.0.0.lowest n run (omega arith)))
  | inr some ↦ elim (cases_lt (n % 3) 2) [
    | inl one ↦ better-left _ (better-right _ (are.0.1.lowest n run (omega arith)))
    | inr two ↦ better-right _ (are.0.2.lowest n run (omega arith))
  ]
]))
best_beats version bytes choices are Alphanumeric n run = better-left _ (better-right _ (elim (cases_lt (n % 2) 1) [
  | inl none ↦ better-left _ (are.1.0.lowest n run (omega arith))
  | inr one ↦ better-right _ (are.1.1.lowest n run (omega arith))
]))
best_beats version bytes choices are Byte n run = better-right _ (are.2.lowest n run refl)

-- no first segment costs less, and none as cheap is longer
pub best-le : (version : ℕ) (bytes : List ℕ) (mode : Mode) (n : ℕ) → IsRun mode bytes n
    → Beats (choices_of version bytes).best (total version bytes mode n) n
best-le version [] mode n run = absurd (omega (arith, run.some, run.inside))
best-le version (b ∷ bytes) mode n run =
    rw (best_is version b bytes) (best_beats version (b ∷ bytes) (choices_of version (b ∷ bytes))
    (each_choice (IsClass-kept version) (b ∷ bytes)) mode n run)

-- a choice of a first segment of the bytes
pub record IsFront (version : ℕ) (bytes : List ℕ) (c : ChoiceView) : Type 0 where
  pub run : IsRun c.segment.mode bytes c.segment.len
  pub sum : c.bits ≡ total version bytes c.segment.mode c.segment.len

abbrev IsNoneOrFront : (version : ℕ) (bytes : List ℕ) (c : ChoiceView) → Type 0
IsNoneOrFront version bytes c = (ABSENT ≤ c.bits) ⊎ IsFront version bytes c

front_of : (version : ℕ) (bytes : List ℕ) {mode : Mode} {class : ℕ} {c : ChoiceView}
    → IsClass version bytes mode class c → IsNoneOrFront version bytes c
front_of version bytes is = elim is.real [
  | inl none ↦ inl none
  | inr r ↦ inr (record { run = rw r.same_mode r.run; sum = rw r.same_mode r.sum })
]

best_front : (version : ℕ) (bytes : List ℕ) (choices : Choices) → Each (IsClass version bytes) choices
    → IsNoneOrFront version bytes (best_choice choices.digits choices.characters choices.bytes)
unfolding best_choice
best_front version bytes choices are =
    let P : ChoiceView → Type 0 = IsNoneOrFront version bytes in
    better-one P _ _ (better-one P _ _ (better-one P _ _ (better-one P _ _ (front_of version bytes are.0.0)
    (front_of version bytes are.0.1)) (front_of version bytes are.0.2))
    (better-one P _ _ (front_of version bytes are.1.0) (front_of version bytes are.1.1))) (front_of version bytes are.2)

pub fewest_nil : (version : ℕ) → fewest_bits version [] ≡ 0
unfolding choices_of
fewest_nil version = refl

-- one byte has at most 28 bits
pub short_bits : (version : ℕ) (mode : Mode) → segment_length version (segment_of mode 1) ≤ 28
short_bits version Numeric = elim (nat_lt version 10) as (λ t. 4 + cond t 10 12 + 4 ≤ 28)
    [ true ↦ omega arith | false ↦ omega arith ]
short_bits version Alphanumeric = elim (nat_lt version 10) as (λ t. 4 + cond t 9 11 + 6 ≤ 28)
    [ true ↦ omega arith | false ↦ omega arith ]
short_bits version Byte = elim (nat_lt version 10) as (λ t. 4 + cond t 8 16 + 8 ≤ 28)
    [ true ↦ omega arith | false ↦ omega arith ]

pub fewest_bits-le : (version : ℕ) (bytes : List ℕ) → fewest_bits version bytes ≤ 28 * length bytes
fewest_bits-le version [] = omega (arith, fewest_nil version)
fewest_bits-le version (b ∷ bytes) =
    let one = best-le version (b ∷ bytes) Byte 1
    (record { some = omega arith; inside = omega arith; characters = refl }) in
    omega (arith, one.low, short_bits version Byte, fewest_bits-le version bytes)

pub best-front : (version b : ℕ) (bytes : List ℕ) → length (b ∷ bytes) ≤ 657
    → IsFront version (b ∷ bytes) (choices_of version (b ∷ bytes)).best
best-front version b bytes few =
    let front : IsNoneOrFront version (b ∷ bytes) (choices_of version (b ∷ bytes)).best =
    rw (best_is version b bytes) (best_front version (b ∷ bytes) (choices_of version (b ∷ bytes))
    (each_choice (IsClass-kept version) (b ∷ bytes))) in
    elim front [
      | inl none ↦ absurd (omega (arith, fewest_bits-le version (b ∷ bytes)))
      | inr is ↦ is
    ]

-- no list of segments costs less
pub fewest_bits-le_cost : (version : ℕ) (segments : List Segment) (bytes : List ℕ)
    → IsSegmentation version segments bytes
    → fewest_bits version bytes ≤ cost version segments
fewest_bits-le_cost version [] bytes cut = rw cut (omega (arith, fewest_nil version))
fewest_bits-le_cost version (s ∷ segments) bytes cut =
    let first = best-le version bytes s.mode s.len
    (record { some = cut.0.some; inside = cut.0.inside; characters = cut.0.characters }) in
    omega (
      arith,
      first.low,
      sum_by-cons (segment_length version) s segments,
      fewest_bits-le_cost version segments (drop s.len bytes) cut.1,
    )

-- a byte that only byte mode has: the best of absent choices and that of byte mode is that of byte mode
best_choice-byte : (byte : ChoiceView) → byte.bits < ABSENT → best_choice absent_digits absent_characters byte ≡ byte
unfolding best_choice better_choice
best_choice-byte byte few = rw (lt-ltb byte.bits ABSENT few) refl

pub byte_choices-is : (version b : ℕ) (rest : Choices) → b < 256 → 45 ≤ alphanumeric_value b
    → rest.best.bits + 28 < ABSENT
    → byte_choices (better_choice (longer_choice rest.bytes 8) (short_choice version Byte rest.best.bits))
    ≡ next_choices version b rest
unfolding next_choices next_digits next_characters
byte_choices-is version b rest small none few =
    let short = short_choice version Byte rest.best.bits in
    let byte = better_choice (longer_choice rest.bytes 8) short in
    let beats : Beats byte short.bits 1 =
    better-right (longer_choice rest.bytes 8) (record { low = omega arith; strict = λ less. absurd (omega arith) }) in
    let best : best_choice absent_digits absent_characters byte ≡ byte =
    best_choice-byte byte (omega (arith, beats.low, short_bits version Byte)) in
    let no_character : nat_lt (alphanumeric_value b) 45 ≡ false = le-ltb (alphanumeric_value b) 45 none in
    rw (no_digit b none, no_character, best) refl
