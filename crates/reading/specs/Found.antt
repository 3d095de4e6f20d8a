-- What a picture is read as where neither symbology nor scale nor direction is told.
-- Why: `Found`, `found_of`, `first_some`, `quarter`, `turned`, `symbologies`, `reading_as`, `reading_at`,
-- `upright_reading`, `any_reading`: each rule of `read_dots` is tried at each scale, and the picture is turned.
-- Why: `ReadingIsAlone`: what is read upright is read so by one symbology and at one scale alone.
use Rattle.std.specs.Prelude.{◌≡◌, ◌<◌, ℕ, zero, suc, ◌+◌, ◌-◌, List, [], ◌∷◌, Option, None, Some, min, option_map}
use Rattle.std.specs.Option.{option_or}
use Rattle.labelcore.specs.declared.symbology.Symbology.{Symbology}
use Rattle.labelcore.specs.declared.symbology.Symbology.TheVariants.{Ean13, Ean8, UpcA, Code128, Qr}
use Rattle.picture.specs.Picture.{Picture}
use Rattle.picture.specs.Reading.{raster}
use Rattle.picture.specs.Text.{below}
use Rattle.reading.specs.Labels.{read_dots}
use Rattle.reading.specs.declared.found.Reading.{Reading}

-- what was read: the symbology, how wide a module is, how many quarter turns clockwise the picture was turned before, and
-- the full data
pub record Found : Type 0 where
  pub symbology : Symbology
  pub scale : ℕ
  pub turns : ℕ
  pub full : List ℕ

-- what a caller is told
abbrev pub found_of : Reading → Found
found_of reading = record {
  symbology = reading.symbology;
  scale = reading.scale;
  turns = reading.turns;
  full = reading.data.items;
}

-- the first answer that any of these gives
abbrev pub first_some : {A B : Type 0} → (A → Option B) → List A → Option B
first_some ask [] = None
first_some ask (x ∷ xs) = option_or (ask x) (first_some ask xs)

-- a picture turned clockwise by a quarter turn
abbrev pub quarter : Picture → Picture
quarter p = record { width = p.height; height = p.width; dark = λ x y. p.dark y (p.height - 1 - x) }

-- a picture turned clockwise by this many quarter turns
abbrev pub turned : ℕ → Picture → Picture
turned zero p = p
turned (suc n) p = quarter (turned n p)

-- the symbologies, in the order in which they are tried
abbrev pub symbologies : List Symbology
symbologies = Ean13 ∷ Ean8 ∷ UpcA ∷ Code128 ∷ Qr ∷ []

-- what a picture is read as at a scale by the rule of a symbology
abbrev pub reading_as : ℕ → Picture → ℕ → Symbology → Option Found
reading_as turns p scale symbology =
    option_map (λ full. record { symbology = symbology; scale = scale; turns = turns; full = full })
    (read_dots symbology scale (raster p))

-- what a picture is read as at a scale by the first of the symbologies that reads it
abbrev pub reading_at : ℕ → Picture → ℕ → Option Found
reading_at turns p scale = first_some (reading_as turns p scale) symbologies

-- what a picture is read as, as it lies, at the first scale at which it is read
abbrev pub upright_reading : ℕ → Picture → Option Found
upright_reading turns p = first_some (λ k. reading_at turns p (k + 1)) (below (min p.width p.height))

-- what a picture is read as after as few quarter turns as it is read after
abbrev pub any_reading : Picture → Option Found
any_reading p = first_some (λ turns. upright_reading turns (turned turns p)) (below 4)

-- a picture that is read by some symbology at some scale is read so, and not otherwise
abbrev pub ReadingIsAlone : Type 0
ReadingIsAlone =
    (p : Picture) (symbology : Symbology) (scale : ℕ) (full : List ℕ) → 0 < scale
    → read_dots symbology scale (raster p) ≡ Some full
    → any_reading p ≡ Some (record { symbology = symbology; scale = scale; turns = 0; full = full })
