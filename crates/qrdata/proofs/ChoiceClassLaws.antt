-- Each choice of the choices of some bytes is the best one of its mode and of its class of lengths.
use Rattle.std.proofs.Common.{◌≡◌, ℕ, zero, suc, ◌+◌, ◌%◌, ◌<◌, ◌≤◌, List, [], ◌∷◌, drop, take, length, refl, arith}
use Rattle.std.proofs.Common.{true, false, inl, inr, ◌⊎◌}
use Rattle.std.specs.Prelude.{IsTrue}
use Rattle.std.specs.List.{list_all}
use Rattle.std.proofs.lemmas.Bool.{and_parts, both_ways, cases_lt, cond_both}
use Rattle.std.specs.Char.{is_ascii_digit}
use Rattle.qrdata.specs.declared.mode.Mode.{Mode}
use Rattle.qrdata.specs.declared.mode.Mode.TheVariants.{Numeric, Alphanumeric, Byte}
use Rattle.qrdata.specs.Private.ChoiceView.{ChoiceView}
use Rattle.qrdata.specs.declared.segmentation.TheConstants.{ABSENT}
use Rattle.qrdata.specs.Segments.{has_character, payload_length, segment_length, segment_of}
use Rattle.qrdata.specs.Private.Table.{Each, EachCharacters, EachDigits, absent_characters, absent_choice}
use Rattle.qrdata.specs.Private.Table.{absent_digits, better_choice, choices_of, fewest_bits, longer_choice}
use Rattle.qrdata.specs.Private.Table.{next_characters, next_choices, next_digits, short_choice}
use Rattle.qrdata.proofs.ChoiceOrderLaws.{Beats, better-left, better-one, better-right}

-- the bits of a first segment and of the best list of the rest
abbrev pub total : (version : ℕ) → List ℕ → Mode → ℕ → ℕ
total version bytes mode n = segment_length version (segment_of mode n) + fewest_bits version (drop n bytes)

-- the class of a length: how many characters are left over
abbrev pub class_of : Mode → ℕ → ℕ
class_of Numeric n = n % 3
class_of Alphanumeric n = n % 2
class_of Byte n = 0

-- the mode has the first n bytes, which are some
pub record IsRun (mode : Mode) (bytes : List ℕ) (n : ℕ) : Type 0 where
  pub some : 0 < n
  pub inside : n ≤ length bytes
  pub characters : IsTrue (list_all (has_character mode) (take n bytes))

IsRun-first : (mode : Mode) (b : ℕ) (bytes : List ℕ) (n : ℕ) → IsRun mode (b ∷ bytes) n → has_character mode b ≡ true
IsRun-first mode b bytes zero run = absurd (omega (arith, run.some))
IsRun-first mode b bytes (suc n) run = (and_parts _ _ run.characters).0

IsRun-rest : (mode : Mode) (b : ℕ) (bytes : List ℕ) (n : ℕ) → 0 < n → IsRun mode (b ∷ bytes) (suc n)
    → IsRun mode bytes n
IsRun-rest mode b bytes n some run =
    record { some = some; inside = omega (arith, run.inside); characters = (and_parts _ _ run.characters).1 }

-- what one byte more does to a class of lengths
pub record Steps (mode : Mode) (class next added : ℕ) : Type 0 where
  pub to : (n : ℕ) → class_of mode n ≡ class → class_of mode (suc n) ≡ next
  pub back : (n : ℕ) → class_of mode (suc n) ≡ next → class_of mode n ≡ class
  pub adds : (n : ℕ) → 0 < n → class_of mode n ≡ class → payload_length mode (suc n) ≡ payload_length mode n + added
  pub few : added ≤ 8

numeric_none : Steps Numeric 2 0 3
numeric_none =
    record { to = λ n h. omega arith; back = λ n h. omega arith; adds = λ n some h. omega arith; few = omega arith }

numeric_one : Steps Numeric 0 1 4
numeric_one =
    record { to = λ n h. omega arith; back = λ n h. omega arith; adds = λ n some h. omega arith; few = omega arith }

numeric_two : Steps Numeric 1 2 3
numeric_two =
    record { to = λ n h. omega arith; back = λ n h. omega arith; adds = λ n some h. omega arith; few = omega arith }

alphanumeric_none : Steps Alphanumeric 1 0 5
alphanumeric_none =
    record { to = λ n h. omega arith; back = λ n h. omega arith; adds = λ n some h. omega arith; few = omega arith }

alphanumeric_one : Steps Alphanumeric 0 1 6
alphanumeric_one =
    record { to = λ n h. omega arith; back = λ n h. omega arith; adds = λ n some h. omega arith; few = omega arith }

byte_one : Steps Byte 0 0 8
byte_one = record { to = λ n h. refl; back = λ n h. refl; adds = λ n some h. omega arith; few = omega arith }

-- a property of choices that is kept where a choice is made: where there is none, where one of a class that one byte
-- does not have becomes longer, and where one byte is taken too
pub record IsKept (version : ℕ) (P : List ℕ → Mode → ℕ → ChoiceView → Type 0) : Type 0 where
  pub none : (bytes : List ℕ) (mode : Mode) (class : ℕ) → ((n : ℕ) → IsRun mode bytes n → ⊥)
      → P bytes mode class (absent_choice mode)
  pub longer : (b : ℕ) {bytes : List ℕ} {mode : Mode} {class next added : ℕ} {c : ChoiceView}
      → has_character mode b ≡ true → Steps mode class next added → P bytes mode class c → (class_of mode 1 ≡ next → ⊥)
      → P (b ∷ bytes) mode next (longer_choice c added)
  pub shorter : (b : ℕ) {bytes : List ℕ} {mode : Mode} {class next added : ℕ} {c : ChoiceView}
      → has_character mode b ≡ true → Steps mode class next added → P bytes mode class c → class_of mode 1 ≡ next
      → P (b ∷ bytes) mode next
      (better_choice (longer_choice c added) (short_choice version mode (fewest_bits version bytes)))

-- such a property is true of each choice of the choices of the bytes
pub each_choice : {version : ℕ} {P : List ℕ → Mode → ℕ → ChoiceView → Type 0} → IsKept version P → (bytes : List ℕ)
    → Each (P bytes) (choices_of version bytes)
unfolding choices_of next_choices next_digits next_characters
each_choice {version} {P} kept [] =
    let none = λ (mode : Mode) (class : ℕ). kept.none [] mode class
    (λ n run. absurd (omega (arith, run.some, run.inside))) in
    ((none Numeric 0, none Numeric 1, none Numeric 2), (none Alphanumeric 0, none Alphanumeric 1), none Byte 0)
each_choice {version} {P} kept (b ∷ bytes) =
    let old = each_choice kept bytes in
    let none = λ (mode : Mode) (class : ℕ) (no : has_character mode b ≡ false). kept.none (b ∷ bytes) mode class
    (λ n run. both_ways (has_character mode b) no (IsRun-first mode b bytes n run)) in (
      cond_both (is_ascii_digit b) _ absent_digits (EachDigits (P (b ∷ bytes))) (λ yes. (
        kept.longer b yes numeric_none old.0.2 (λ one. omega arith),
        kept.shorter b yes numeric_one old.0.0 refl,
        kept.longer b yes numeric_two old.0.1 (λ one. omega arith),
      )) (λ no. (none Numeric 0 no, none Numeric 1 no, none Numeric 2 no)),
      cond_both (has_character Alphanumeric b) _ absent_characters (EachCharacters (P (b ∷ bytes))) (λ yes. (
        kept.longer b yes alphanumeric_none old.1.1 (λ one. omega arith),
        kept.shorter b yes alphanumeric_one old.1.0 refl,
      )) (λ no. (none Alphanumeric 0 no, none Alphanumeric 1 no)),
      kept.shorter b refl byte_one old.2 refl,
    )

-- a choice of a segment of the bytes
pub record IsReal (version : ℕ) (bytes : List ℕ) (mode : Mode) (class : ℕ) (c : ChoiceView) : Type 0 where
  pub same_mode : c.segment.mode ≡ mode
  pub same_class : class_of mode c.segment.len ≡ class
  pub run : IsRun mode bytes c.segment.len
  pub sum : c.bits ≡ total version bytes mode c.segment.len

-- The best choice of a mode and a class of lengths. It is absent, or one of a segment of the bytes.
pub record IsClass (version : ℕ) (bytes : List ℕ) (mode : Mode) (class : ℕ) (c : ChoiceView) : Type 0 where
  pub real : (ABSENT ≤ c.bits) ⊎ IsReal version bytes mode class c
  pub lowest : (n : ℕ) → IsRun mode bytes n → class_of mode n ≡ class → Beats c (total version bytes mode n) n

-- what a byte more makes of the best choice of a class
module _ {version b : ℕ} {bytes : List ℕ} {mode : Mode} {class next added : ℕ} {c : ChoiceView}
    (passes : has_character mode b ≡ true) (steps : Steps mode class next added)
    (old : IsClass version bytes mode class c) where
  real_longer : (ABSENT ≤ c.bits + added) ⊎ IsReal version (b ∷ bytes) mode next (longer_choice c added)
  real_longer = elim old.real [
    | inl none ↦ inl (omega arith)
    | inr r ↦ inr (record {
      same_mode = r.same_mode;
      same_class = steps.to c.segment.len r.same_class;
      run = record {
        some = omega arith;
        inside = omega (arith, r.run.inside);
        characters = rw passes r.run.characters;
      };
      sum = omega (arith, r.sum, steps.adds c.segment.len r.run.some r.same_class);
    })
  ]

  -- a longer choice comes no later than a segment of more than one byte
  lowest_longer : (n : ℕ) → 1 < n → IsRun mode (b ∷ bytes) n → class_of mode n ≡ next
      → Beats (longer_choice c added) (total version (b ∷ bytes) mode n) n
  lowest_longer zero more run same = absurd (omega arith)
  lowest_longer (suc n) more run same =
      let here = steps.back n same in
      let before : Beats c (total version bytes mode n) n =
      old.lowest n (IsRun-rest mode b bytes n (omega arith) run) here in
      let adds = steps.adds n (omega arith) here in
      record { low = omega (arith, before.low); strict = λ less. omega (arith, before.strict (omega arith)) }

  IsClass-longer : (class_of mode 1 ≡ next → ⊥) → IsClass version (b ∷ bytes) mode next (longer_choice c added)
  IsClass-longer other = record {
    real = real_longer;
    lowest = λ n run same. elim (cases_lt 1 n) [
      | inl more ↦ lowest_longer n more run same
      | inr one ↦ let is : n ≡ 1 = omega (arith, run.some) in absurd (other (rw is at same))
    ];
  }

  IsClass-shorter : class_of mode 1 ≡ next → IsClass version (b ∷ bytes) mode next
      (better_choice (longer_choice c added) (short_choice version mode (fewest_bits version bytes)))
  IsClass-shorter one =
      let short = short_choice version mode (fewest_bits version bytes) in record {
        real = better-one (λ d. (ABSENT ≤ d.bits) ⊎ IsReal version (b ∷ bytes) mode next d) (longer_choice c added)
            short real_longer (inr (record {
              same_mode = refl;
              same_class = one;
              run = record { some = omega arith; inside = omega arith; characters = rw passes refl };
              sum = refl;
            }));
        lowest = λ n run same. elim (cases_lt 1 n) [
          | inl more ↦ better-left short (lowest_longer n more run same)
          | inr last ↦ let is : n ≡ 1 = omega (arith, run.some) in
              rw is (better-right (longer_choice c added)
              (record { low = omega arith; strict = λ less. absurd (omega arith) }))
        ];
      }

pub IsClass-kept : (version : ℕ) → IsKept version (IsClass version)
IsClass-kept version = record {
  none = λ bytes mode class none. record { real = inl (omega arith); lowest = λ n run same. absurd (none n run) };
  longer = λ b passes steps old. IsClass-longer passes steps old;
  shorter = λ b passes steps old. IsClass-shorter passes steps old;
}
