-- The first answer, and the scale of what is found.
use Rattle.std.proofs.Common.{ap, drop, get_or, length, Bool, ◌<◌, ◌≡◌, ◌≤◌, ◌+◌, ℕ, zero, suc, min, false, true, Option, Some, None, List, [], ◌∷◌, ◌∙◌, refl, sym, subst, arith}
use Rattle.std.specs.Option.{is_some, option_map, option_or}
use Rattle.std.specs.Bool.{then_some}
use Rattle.std.specs.Prelude.{if◌then◌else◌, unwrap_or}
use Rattle.std.proofs.lemmas.Option.{none-some}
use Rattle.std.proofs.lemmas.List.{drop_more}
use Rattle.std.proofs.lemmas.Bool.{false≢true}
use Rattle.std.specs.Prelude.{IfSome}
use Rattle.labelcore.specs.declared.symbology.Symbology.{Symbology}
use Rattle.picture.specs.Picture.{Picture}
use Rattle.picture.specs.Reading.{raster}
use Rattle.picture.specs.Text.{below}
use Rattle.reading.specs.Found.{any_reading, first_some, found_of, reading_as, reading_at, symbologies, turned, upright_reading}
use Rattle.reading.specs.Labels.{read_dots}
use Rattle.reading.specs.declared.found.Reading.{Reading}
use Rattle.reading.proofs.Laws.ScaleLaws.{scale_within}

pub or_none : {A : Type 0} (a : Option A) → option_or a None ≡ a
or_none (Some x) = refl
or_none None = refl

-- an answer that is not there leaves the others
pub or_absent : {B D : Type 0} (told : D → B) (o : Option D) (a rest : Option B) → option_map told o ≡ a
    → is_some o ≡ false → option_or a rest ≡ rest
or_absent told None a rest is none = λ i. option_or (sym is i) rest
or_absent told (Some d) a rest is none = absurd (false≢true (sym none))

-- an answer that is there is the first one
pub or_present : {B D : Type 0} (told : D → B) (o : Option D) (a rest : Option B) → option_map told o ≡ a
    → is_some o ≡ true → option_map told o ≡ option_or a rest
or_present told (Some d) a rest is some = λ i. option_or (is i) rest
or_present told None a rest is some = absurd (false≢true some)

-- the first answer to what is still to be asked
pub next_asked : {B : Type 0} (ask : Symbology → Option B) (xs : List Symbology) (place : ℕ) (d : Symbology)
    → place < length xs
    → first_some ask (drop place xs) ≡ option_or (ask (get_or xs place d)) (first_some ask (drop (place + 1) xs))
next_asked ask xs place d inside = rw (drop_more xs place d inside) refl

-- what is asked at the scale that is found
pub at_scale : {B : Type 0} (begins : Bool) (n scale : ℕ) (ask : ℕ → Option B) → then_some begins n ≡ Some scale
    → (if begins then ask n else None) ≡ ask scale
at_scale true n scale ask e = ap (λ o. ask (unwrap_or o n)) e
at_scale false n scale ask e = absurd (none-some scale e)

-- without a scale nothing is asked
pub at_no_scale : {B : Type 0} (begins : Bool) (n : ℕ) (ask : ℕ → Option B) → then_some begins n ≡ None
    → (if begins then ask n else None) ≡ None
at_no_scale true n ask e = absurd (none-some n (sym e))
at_no_scale false n ask e = refl

-- what holds of each answer holds of the first one
first_has : {A B : Type 0} (P : B → Type 0) (ask : A → Option B) → ((x : A) → IfSome (ask x) P) → (xs : List A)
    → IfSome (first_some ask xs) P
first_has P ask each [] = tt
first_has {B = B} P ask each (x ∷ xs) = either (ask x) (first_some ask xs) (each x) (first_has P ask each xs)
  where
    either : (a b : Option B) → IfSome a P → IfSome b P → IfSome (option_or a b) P
    either None b first other = other
    either (Some v) b first other = first

-- the shorter side of a picture, which stays as long where it is turned
abbrev least : Picture → ℕ
least p = min p.width p.height

same_least : (p : Picture) (n : ℕ) → least (turned n p) ≡ least p
same_least p zero = refl
same_least p (suc n) = omega arith ∙ same_least p n

module _ (p : Picture) (turns : ℕ) where
  as_narrow : (k : ℕ) (symbology : Symbology) → IfSome (reading_as turns p (k + 1) symbology) (λ found. found.scale ≤ least p)
  as_narrow k symbology = at (read_dots symbology (k + 1) (raster p)) refl
    where
      at : (o : Option (List ℕ)) → read_dots symbology (k + 1) (raster p) ≡ o
          → IfSome (reading_as turns p (k + 1) symbology) (λ found. found.scale ≤ least p)
      at None e = rw e tt
      at (Some full) e =
          let fits = scale_within (raster p) symbology (k + 1) full (omega arith) e in rw e (omega (arith, fits.0, fits.1))

  upright_narrow : IfSome (upright_reading turns p) (λ found. found.scale ≤ least p)
  upright_narrow = first_has (λ found. found.scale ≤ least p) (λ k. reading_at turns p (k + 1))
      (λ k. first_has (λ found. found.scale ≤ least p) (reading_as turns p (k + 1)) (as_narrow k) symbologies)
      (below (least p))

-- no scale is above the shorter side
pub narrow : (p : Picture) (o : Option Reading) → option_map found_of o ≡ any_reading p
    → IfSome o (λ reading. reading.scale ≤ least p)
narrow p None is = tt
narrow p (Some reading) is =
    subst (λ found. IfSome found (λ found. found.scale ≤ least p)) (sym is)
    (first_has (λ found. found.scale ≤ least p) (λ turns. upright_reading turns (turned turns p)) (λ turns. subst (λ n. IfSome (upright_reading turns (turned turns p)) (λ found. found.scale ≤ n))
    (same_least p turns) (upright_narrow (turned turns p) turns)) (below 4))
