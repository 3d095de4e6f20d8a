-- Where the longer bars of an EAN or UPC symbol are, and its printed digits (ISO/IEC 15420, symbol formats and human
-- readable interpretation): in modules, from the left edge of the left quiet zone on.
-- Why: `layout_of`: lib/labels.h. `longer_bars`, `printed`: 15420, symbol formats and human readable interpretation.
use Rattle.std.specs.Prelude.{◌≡◌, ℕ, ◌-◌, Bool, false, Option, None, Some, List, [], ◌∷◌, ◌++◌, map, take, drop, replicate}
use Rattle.std.specs.Prelude.{flat_map, slice_index, IfOk}
use Rattle.labelcore.specs.declared.symbology.Symbology.{Symbology}
use Rattle.labelcore.specs.declared.symbology.Symbology.TheVariants.{Ean13, Ean8, UpcA, Code128, Qr}
use Rattle.linear.specs.declared.ean.NumberSet.TheVariants.{A, C}
use Rattle.linear.specs.Digits.{digit_value, full_digits}
use Rattle.linear.specs.Ean.{pattern, patterns, normal_guard, centre_guard, left_sets, ean13_row, ean8_row, upca_row}
use Rattle.filter.specs.Symbol.{quiet_zone}
use Rattle.capi.specs.declared.layout.DigitGroup.{DigitGroup}
use Rattle.capi.specs.declared.layout.Layout.{Layout}
use Rattle.capi.specs.declared.layout.Span.{Span}

-- modules from one on and before another
abbrev pub between : ℕ → ℕ → Span
between left right = record { left = left; right = right }

-- digits from one on and before another, and the modules that they are printed below
abbrev pub group : ℕ → ℕ → ℕ → ℕ → DigitGroup
group first last left right = record { first = first; last = last; span = between left right }

-- a symbology without longer bars and printed digits
abbrev pub no_layout : Layout
no_layout = record {
  guards = 0;
  groups = 0;
  reserved = 0 ∷ 0 ∷ [];
  guard = replicate 3 (between 0 0);
  group = replicate 4 (group 0 0 0 0);
}

-- the layout of a symbology
unfoldable pub layout_of : Symbology → Layout
layout_of Ean13 = record no_layout {
  guards = 3;
  groups = 3;
  guard = between 11 14 ∷ between 56 61 ∷ between 103 106 ∷ [];
  group = group 0 1 2 9 ∷ group 1 7 14 56 ∷ group 7 13 61 103 ∷ group 0 0 0 0 ∷ [];
}
layout_of Ean8 = record no_layout {
  guards = 3;
  groups = 2;
  guard = between 7 10 ∷ between 38 43 ∷ between 71 74 ∷ [];
  group = group 0 4 10 38 ∷ group 4 8 43 71 ∷ group 0 0 0 0 ∷ group 0 0 0 0 ∷ [];
}
layout_of UpcA = record no_layout {
  guards = 3;
  groups = 4;
  guard = between 9 19 ∷ between 54 59 ∷ between 94 104 ∷ [];
  group = group 0 1 1 6 ∷ group 1 6 19 54 ∷ group 6 11 59 94 ∷ group 11 12 107 112 ∷ [];
}
layout_of Code128 = no_layout
layout_of Qr = no_layout

-- a row between its quiet zones, which are light
abbrev pub in_quiet_zones : Symbology → List Bool → List Bool
in_quiet_zones symbology row =
    replicate (quiet_zone symbology).left false ++ (row ++ replicate (quiet_zone symbology).right false)

-- the modules of a span
abbrev pub modules_at : List Bool → Span → List Bool
modules_at modules s = take (s.right - s.left) (drop s.left modules)

-- digits in number set C
abbrev pub right_digits : List ℕ → List Bool
right_digits bytes = flat_map (λ byte. pattern C (digit_value byte)) bytes

-- the bars that are longer: the guards, of UPC-A with the bars of the first and the last digit
abbrev pub longer_bars : Symbology → List ℕ → List (List Bool)
longer_bars UpcA full =
    (normal_guard ++ pattern A (digit_value (slice_index full 0)))
    ∷ centre_guard ∷ (right_digits (drop 11 full) ++ normal_guard) ∷ []
longer_bars ean full = normal_guard ∷ centre_guard ∷ normal_guard ∷ []

-- The digits that are printed together, from one on and before another, and the modules above them: these are their bars,
-- or light beside the bars, for the first digit of EAN-13 and the first and the last of UPC-A.
abbrev pub printed : Symbology → List ℕ → List (ℕ × ℕ × List Bool)
printed Ean13 full =
    (0, 1, replicate 7 false)
    ∷ (1, 7, patterns (left_sets (digit_value (slice_index full 0))) (take 6 (drop 1 full)))
    ∷ (7, 13, right_digits (drop 7 full)) ∷ []
printed Ean8 full = (0, 4, patterns (replicate 4 A) (take 4 full)) ∷ (4, 8, right_digits (drop 4 full)) ∷ []
printed UpcA full =
    (0, 1, replicate 5 false) ∷ (1, 6, patterns (replicate 5 A) (take 5 (drop 1 full)))
    ∷ (6, 11, right_digits (take 5 (drop 6 full))) ∷ (11, 12, replicate 5 false) ∷ []
printed other full = []

-- the spans of a layout have the longer bars of the row of full data, and the bars of its printed digits
pub record IsLaidOut (symbology : Symbology) (layout : Layout) (full : List ℕ) (row : List Bool) : Type 0 where
  pub guards : map (modules_at (in_quiet_zones symbology row)) (take layout.guards layout.guard)
      ≡ longer_bars symbology full
  pub digits : map (λ g. (g.first, g.last, modules_at (in_quiet_zones symbology row) g.span))
      (take layout.groups layout.group) ≡ printed symbology full

-- they have them in each symbol of EAN and UPC; the others have neither
abbrev pub IsLayoutOf : Symbology → Layout → Type 0
IsLayoutOf Ean13 layout =
    (bytes : List ℕ) → IfOk (full_digits 12 bytes) (λ full. IsLaidOut Ean13 layout full (ean13_row full))
IsLayoutOf Ean8 layout =
    (bytes : List ℕ) → IfOk (full_digits 7 bytes) (λ full. IsLaidOut Ean8 layout full (ean8_row full))
IsLayoutOf UpcA layout =
    (bytes : List ℕ) → IfOk (full_digits 11 bytes) (λ full. IsLaidOut UpcA layout full (upca_row full))
IsLayoutOf other layout = (layout.guards ≡ 0) × (layout.groups ≡ 0)

-- what a call tells of a symbology: its code, and its layout, with nothing in it where the number is that of none
abbrev pub AnswersLayout : ℕ → Layout → Option Symbology → Type 0
AnswersLayout code layout None = (code ≡ 3) × (layout ≡ no_layout)
AnswersLayout code layout (Some symbology) =
    (code ≡ 0) × (layout ≡ layout_of symbology) × IsLayoutOf symbology layout
