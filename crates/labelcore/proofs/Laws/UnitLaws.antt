-- The reading of escaped data finds its units, or the first bad backslash.
use Rattle.std.proofs.lemmas.Bool.Decides.{nat_tests}
use Rattle.std.proofs.Common.{◌≡◌, ◌≢◌, ℕ, suc, zero, ◌+◌, ◌*◌, ◌<◌, ◌≤◌, false, ◌&&◌, inl, inr, List, [], ◌∷◌}
use Rattle.std.proofs.Common.{◌++◌, length, refl, ap, sym, subst, ◌∙◌, arith, Result, Ok, Err, append_assoc}
use Rattle.std.proofs.Common.{length-append}
use Rattle.std.specs.Char.{digit_value, is_digit}
use Rattle.std.proofs.lemmas.Bool.{ne_eqb, lt-ltb, le-ltb, and_from, and_left, and_right, cases_lt, cases_eq}
use Rattle.labelcore.specs.Escapes.{naming, unescaped_from, unescaped}
use Rattle.labelcore.specs.Units.{IsUnit, plain, backslash, line_feed, hexadecimal, AreUnits, none, more, HasNoUnit}
use Rattle.labelcore.specs.Units.{IsBadEscape}
use Rattle.labelcore.proofs.Laws.EscapeLaws.{two_digits}

-- a unit at the front is read as its byte
pub read_unit : (unit : List ℕ) (byte : ℕ) → IsUnit unit byte → (place : ℕ) (text : List ℕ)
    → unescaped_from place (unit ++ text) ≡ naming byte (unescaped_from (place + length unit) text)
read_unit unit byte (plain b other) place text = rw (ne_eqb b 92 other, unescaped_from) refl
read_unit unit byte backslash place text = refl
read_unit unit byte line_feed place text = refl
read_unit unit byte (hexadecimal h l high low) place text =
    two_digits h l text place (and_from (is_digit h 16) (is_digit l 16) (lt-ltb (digit_value h) 16 high)
    (lt-ltb (digit_value l) 16 low))

-- a list of units is read as its bytes
pub unescaped-AreUnits : (text bytes : List ℕ) → AreUnits text bytes → (place : ℕ)
    → unescaped_from place text ≡ Ok bytes
unescaped-AreUnits text bytes none place = refl
unescaped-AreUnits text bytes (more unit rest bs byte u us) place = read_unit unit byte u place rest
    ∙ ap (naming byte) (unescaped-AreUnits rest bs us (place + length unit))

-- a list of units comes before the bad backslash; the first byte has the number `start`
record IsBadFrom (start : ℕ) (text : List ℕ) (place : ℕ) : Type 0 where
  pub front : List ℕ
  pub rest : List ℕ
  pub bytes : List ℕ
  pub cut : text ≡ front ++ 92 ∷ rest
  pub units : AreUnits front bytes
  pub at : place ≡ start + length front
  pub stuck : (place : ℕ) → unescaped_from place (92 ∷ rest) ≡ Err place

-- what is true of a reading from a place
abbrev Reads : ℕ → List ℕ → Result (List ℕ) ℕ → Type 0
Reads place text (Ok bytes) = AreUnits text bytes
Reads place text (Err at) = IsBadFrom place text at

reads_more : (unit text : List ℕ) (byte place : ℕ) (r : Result (List ℕ) ℕ) → IsUnit unit byte
    → Reads (place + length unit) text r → Reads place (unit ++ text) (naming byte r)
reads_more unit text byte place (Ok bytes) u h = more unit text bytes byte u h
reads_more unit text byte place (Err at) u h = record {
  front = unit ++ h.front;
  rest = h.rest;
  bytes = byte ∷ h.bytes;
  cut = ap (λ (xs : List ℕ). unit ++ xs) h.cut ∙ sym (append_assoc unit h.front (92 ∷ h.rest));
  units = more unit h.front h.bytes byte u h.units;
  at = h.at ∙ (let size = length-append unit h.front in omega arith);
  stuck = h.stuck;
}

-- a unit at the front, or none
data Front : List ℕ → Type 0 where
  unit_at : (unit rest : List ℕ) (byte : ℕ) → IsUnit unit byte → Front (unit ++ rest)
  no_unit_at : (rest : List ℕ) → ((place : ℕ) → unescaped_from place (92 ∷ rest) ≡ Err place) → Front (92 ∷ rest)

after_x-bad : (h l : ℕ) (rest : List ℕ) (place : ℕ) → (is_digit h 16 && is_digit l 16) ≡ false
    → unescaped_from place (92 ∷ 120 ∷ h ∷ l ∷ rest) ≡ Err place
after_x-bad h l rest place bad = grind (arith, bad)

after_backslash-other : (c : ℕ) (after : List ℕ) (place : ℕ) → c ≢ 92 → c ≢ 110 → c ≢ 120
    → unescaped_from place (92 ∷ c ∷ after) ≡ Err place
after_backslash-other c after place x y z = grind (arith, nat_tests, x, y, z)

front_of_digits : (h l : ℕ) (rest : List ℕ) → Front (92 ∷ 120 ∷ h ∷ l ∷ rest)
front_of_digits h l rest = elim (cases_lt (digit_value h) 16) [
  | inl high ↦ elim (cases_lt (digit_value l) 16) [
    | inl low ↦ unit_at (92 ∷ 120 ∷ h ∷ l ∷ []) rest (16 * digit_value h + digit_value l) (hexadecimal h l high low)
    | inr bad ↦ no_unit_at (120 ∷ h ∷ l ∷ rest) (λ place. after_x-bad h l rest place
        (and_right (is_digit h 16) (is_digit l 16) (le-ltb (digit_value l) 16 bad)))
  ]
  | inr bad ↦ no_unit_at (120 ∷ h ∷ l ∷ rest) (λ place. after_x-bad h l rest place
      (and_left (is_digit h 16) (is_digit l 16) (le-ltb (digit_value h) 16 bad)))
]

front_of_x : (after : List ℕ) → Front (92 ∷ 120 ∷ after)
front_of_x [] = no_unit_at (120 ∷ []) (λ place. refl)
front_of_x (h ∷ []) = no_unit_at (120 ∷ h ∷ []) (λ place. refl)
front_of_x (h ∷ l ∷ rest) = front_of_digits h l rest

front_of_backslash : (rest : List ℕ) → Front (92 ∷ rest)
front_of_backslash [] = no_unit_at [] (λ place. refl)
front_of_backslash (c ∷ after) = elim (cases_eq c 92) [
  | inl e ↦ subst (λ (x : ℕ). Front (92 ∷ x ∷ after)) (sym e) (unit_at (92 ∷ 92 ∷ []) after 92 backslash)
  | inr x ↦ elim (cases_eq c 110) [
    | inl e ↦ subst (λ (x : ℕ). Front (92 ∷ x ∷ after)) (sym e) (unit_at (92 ∷ 110 ∷ []) after 10 line_feed)
    | inr y ↦ elim (cases_eq c 120) [
      | inl e ↦ subst (λ (x : ℕ). Front (92 ∷ x ∷ after)) (sym e) (front_of_x after)
      | inr z ↦ no_unit_at (c ∷ after) (λ place. after_backslash-other c after place x y z)
    ]
  ]
]

front_of : (b : ℕ) (rest : List ℕ) → Front (b ∷ rest)
front_of b rest = elim (cases_eq b 92) [
  | inl e ↦ subst (λ (x : ℕ). Front (x ∷ rest)) (sym e) (front_of_backslash rest)
  | inr other ↦ unit_at (b ∷ []) rest b (plain b other)
]

pub unit_some : (unit : List ℕ) (byte : ℕ) → IsUnit unit byte → 0 < length unit
unit_some unit byte u = grind (arith, u)

by_front : (n place : ℕ) (text : List ℕ) → Front text → length text ≤ suc n
    → ((p : ℕ) (t : List ℕ) → length t ≤ n → Reads p t (unescaped_from p t))
    → Reads place text (unescaped_from place text)
by_front n place text (unit_at unit after byte u) size shorter =
    subst (Reads place (unit ++ after)) (sym (read_unit unit byte u place after))
    (reads_more unit after byte place (unescaped_from (place + length unit) after) u
    (shorter (place + length unit) after (omega (arith, length-append unit after, unit_some unit byte u))))
by_front n place text (no_unit_at after e) size shorter =
    subst (Reads place (92 ∷ after)) (sym (e place))
    (record { front = []; rest = after; bytes = []; cut = refl; units = none; at = omega arith; stuck = e })

-- the reading of a text finds its units, or the first bad backslash
reads : (n place : ℕ) (text : List ℕ) → length text ≤ n → Reads place text (unescaped_from place text)
reads n place [] fits = none
reads zero place (b ∷ rest) fits = absurd (omega arith)
reads (suc n) place (b ∷ rest) fits = by_front n place (b ∷ rest) (front_of b rest) fits (λ p t. reads n p t)

-- what is true of the reading of escaped data
unescaped-reads : (text : List ℕ) → Reads 1 text (unescaped text)
unescaped-reads text = reads (length text) 1 text (omega arith)

pub AreUnits-from_unescaped : (text bytes : List ℕ) → unescaped text ≡ Ok bytes → AreUnits text bytes
AreUnits-from_unescaped text bytes e = subst (Reads 1 text) e (unescaped-reads text)

-- where the reading ends at once, no unit begins: after a unit it ends later
no_unit : (text : List ℕ) → ((place : ℕ) → unescaped_from place text ≡ Err place) → HasNoUnit text
no_unit text stuck unit rest byte u cut =
    let later = reads (length rest) (0 + length unit) rest (omega arith) in
    let first = read_unit unit byte u 0 rest in
    let end = stuck 0 in
    let some = unit_some unit byte u in grind (arith, later, first, end, some, cut)

pub IsBadEscape-from_unescaped : (text : List ℕ) (place : ℕ) → unescaped text ≡ Err place → IsBadEscape text place
IsBadEscape-from_unescaped text place e =
    let h : IsBadFrom 1 text place = subst (Reads 1 text) e (unescaped-reads text) in
    record {
      front = h.front;
      rest = h.rest;
      bytes = h.bytes;
      cut = h.cut;
      units = h.units;
      at = (let at = h.at in omega arith);
      bad = no_unit (92 ∷ h.rest) h.stuck;
    }

-- where no unit begins, the reading ends
bad_front : (text : List ℕ) → Front text → HasNoUnit text → (place : ℕ) → unescaped_from place text ≡ Err place
bad_front text (unit_at unit rest byte u) bad place = absurd (bad unit rest byte u refl)
bad_front text (no_unit_at rest e) bad place = e place

-- where no unit begins after a list of units, the reading ends
bad_after : (front bytes rest : List ℕ) → AreUnits front bytes → (place at : ℕ) → at ≡ place + length front
    → unescaped_from at rest ≡ Err at → unescaped_from place (front ++ rest) ≡ Err at
bad_after front bytes rest none place at e h = let same : at ≡ place = omega (arith, e) in
    subst (λ (p : ℕ). unescaped_from p rest ≡ Err at) same h
bad_after front bytes rest (more unit text bs byte u us) place at e h =
    ap (unescaped_from place) (append_assoc unit text rest)
    ∙ (read_unit unit byte u place (text ++ rest)
    ∙ ap (naming byte) (bad_after text bs rest us (place + length unit) at (omega (arith, e, length-append unit text))
    h))

pub unescaped-IsBadEscape : (text : List ℕ) (place : ℕ) → IsBadEscape text place → unescaped text ≡ Err place
unescaped-IsBadEscape text place b =
    let at = b.at in
    ap unescaped b.cut ∙ bad_after b.front b.bytes (92 ∷ b.rest) b.units 1 place (omega arith)
    (bad_front (92 ∷ b.rest) (front_of_backslash b.rest) b.bad place)
