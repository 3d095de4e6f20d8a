-- A symbol that is read has its first module at the first dark pixel, so that it is read at one scale alone.
use Rattle.std.proofs.Common.{◌≡◌, ◌≢◌, ℕ, zero, suc, ◌+◌, ◌-◌, ◌*◌, ◌/◌, ◌%◌, ◌<◌, refl, sym, ap, ◌∙◌, arith, inl, inr, min}
use Rattle.std.proofs.Common.{List, [], ◌∷◌, Option, Some, None, get_or, length, Bool, true, false, nat_lt}
use Rattle.std.proofs.Common.{◌&&◌, ltb-true}
use Rattle.std.proofs.lemmas.Bool.{and_parts, both_ways, cases_lt}
use Rattle.std.proofs.lemmas.Bool.Decides.{nat_tests}
use Rattle.std.proofs.lemmas.Nat.{div-add-mod'}
use Rattle.std.proofs.lemmas.Option.{none-some}
use Rattle.std.proofs.Math.Nat.{mul-div_cancel}
use Rattle.labelcore.specs.declared.symbology.Symbology.{Symbology}
use Rattle.labelcore.specs.declared.symbology.Symbology.TheVariants.{Ean13}
use Rattle.picture.specs.Picture.{Picture}
use Rattle.picture.specs.Reading.{raster}
use Rattle.picture.specs.Text.{below}
use Rattle.picture.proofs.Laws.SampleLaws.{value_at-raster}
use Rattle.filter.specs.Symbol.{quiet_zone}
use Rattle.reading.specs.Found.{Found, any_reading, first_some, reading_as, reading_at, symbologies, turned, upright_reading}
use Rattle.reading.specs.Labels.{read_dots}
use Rattle.reading.specs.Private.{AreLightBefore, IsFirst, can_begin, is_second_light, reading_from}
use Rattle.reading.proofs.Laws.AloneLaws.{place_of, read_upright}
use Rattle.reading.proofs.Laws.ScaleLaws.{IsRead, after_first, is_read, second_is, second_wide, zone_is}

-- where no question has an answer
none_of : {A B : Type 0} (ask : A → Option B) → ((x : A) → ask x ≡ None) → (xs : List A) → first_some ask xs ≡ None
none_of ask none [] = refl
none_of ask none (x ∷ xs) = rw (none x, none_of ask none xs) refl

-- where the first answer is none, so is each
each_none : {A B : Type 0} (ask : A → Option B) (xs : List A) (i : ℕ) (d : A) → i < length xs → first_some ask xs ≡ None
    → ask (get_or xs i d) ≡ None
each_none ask [] i d inside none = absurd (omega (arith, inside))
each_none {A = A} {B = B} ask (x ∷ xs) i d inside none =
    at (ask x) refl i inside (λ k within rest. each_none ask xs k d within rest)
  where
    at : (o : Option B) → ask x ≡ o → (i : ℕ) → i < suc (length xs)
        → ((k : ℕ) → k < length xs → first_some ask xs ≡ None → ask (get_or xs k d) ≡ None)
        → ask (get_or (x ∷ xs) i d) ≡ None
    at None e zero within rest = e
    at None e (suc i) within rest = rest i (omega (arith, within)) (rw e at none)
    at (Some v) e i within rest = absurd (none-some v (sym (rw e at none)))

-- what the first answer is, where each answer is that
first_answer : {A B : Type 0} (ask : A → Option B) (answer : Option B) → ((x : A) (v : B) → ask x ≡ Some v → answer ≡ Some v)
    → (xs : List A) (v : B) → first_some ask xs ≡ Some v → answer ≡ Some v
first_answer ask answer each [] v is = absurd (none-some v is)
first_answer {B = B} ask answer each (x ∷ xs) v is = at (ask x) refl (λ rest. first_answer ask answer each xs v rest)
  where
    at : (o : Option B) → ask x ≡ o → (first_some ask xs ≡ Some v → answer ≡ Some v) → answer ≡ Some v
    at None e rest = rest (rw e at is)
    at (Some w) e rest = each x v (e ∙ (rw e at is))

module _ (turns : ℕ) (p : Picture) where
  -- where nothing is read at any scale
  none_read : ((symbology : Symbology) (k : ℕ) (full : List ℕ) → read_dots symbology (k + 1) (raster p) ≢ Some full)
      → upright_reading turns p ≡ None
  none_read none = none_of (λ k. reading_at turns p (k + 1)) (λ k.
      none_of (reading_as turns p (k + 1)) (λ symbology. at k symbology (read_dots symbology (k + 1) (raster p)) refl)
      symbologies) (below (min p.width p.height))
    where
      at : (k : ℕ) (symbology : Symbology) (o : Option (List ℕ)) → read_dots symbology (k + 1) (raster p) ≡ o
          → reading_as turns p (k + 1) symbology ≡ None
      at k symbology None e = rw e refl
      at k symbology (Some full) e = absurd (none symbology k full e)

  -- what is read by a symbology is what the picture is read as
  read_by : (symbology : Symbology) (scale : ℕ) (found : Found) → 0 < scale
      → reading_as turns p scale symbology ≡ Some found → upright_reading turns p ≡ Some found
  read_by symbology scale found some is = at (read_dots symbology scale (raster p)) refl
    where
      at : (o : Option (List ℕ)) → read_dots symbology scale (raster p) ≡ o → upright_reading turns p ≡ Some found
      at None e = absurd (none-some found (rw e at is))
      at (Some full) e = read_upright turns p symbology scale full some e ∙ rw e at is

  -- a light picture is not read
  pub light_unread : AreLightBefore p p.height → upright_reading turns p ≡ None
  light_unread light = none_read (λ symbology k full read.
      let zone = quiet_zone symbology in
      let it = is_read symbology (raster p) (k + 1) full (omega arith) read in
      let dark = value_at-raster p (zone.left * (k + 1)) (zone.top * (k + 1)) it.wide it.high in
      both_ways _ (dark ∙ light (zone.left * (k + 1)) (zone.top * (k + 1)) it.wide it.high) it.dark)

-- a light picture is light where it is turned
turned_light : (p : Picture) → AreLightBefore p p.height → (n : ℕ) → AreLightBefore (turned n p) (turned n p).height
turned_light p light zero = light
turned_light p light (suc n) = λ x y wide high.
    turned_light p light n y ((turned n p).height - 1 - x) high (omega (arith, wide))

pub light_in_vain : (p : Picture) → AreLightBefore p p.height → any_reading p ≡ None
light_in_vain p light = none_of (λ turns. upright_reading turns (turned turns p))
    (λ turns. light_unread turns (turned turns p) (turned_light p light turns)) (below 4)

module _ (p : Picture) (x y : ℕ) (first : IsFirst p x y) where
  -- the first module is at the first dark pixel
  corner : (symbology : Symbology) (scale : ℕ) → IsRead symbology (raster p) scale
      → ((quiet_zone symbology).left * scale ≡ x) × ((quiet_zone symbology).top * scale ≡ y)
  corner symbology scale it =
      let zone = quiet_zone symbology in
      let after = after_first it x y first.wide first.high (value_at-raster p x y first.wide first.high ∙ first.dark) in
      let dark : p.dark (zone.left * scale) (zone.top * scale) ≡ true =
      sym (value_at-raster p (zone.left * scale) (zone.top * scale) it.wide it.high) ∙ it.dark in
      let row : zone.top * scale ≡ y = elim (cases_lt (zone.top * scale) y) [
        | inl above ↦ absurd (both_ways _ (first.above (zone.left * scale) (zone.top * scale) it.wide above) dark)
        | inr not_above ↦ omega (arith, not_above, after.1)
      ] in
      let column : zone.left * scale ≡ x = elim (cases_lt (zone.left * scale) x) [
        | inl before ↦ absurd (both_ways _ (ap (p.dark (zone.left * scale)) row ∙ first.before (zone.left * scale) before) dark)
        | inr not_before ↦ omega (arith, not_before, after.0)
      ] in
      (column, row)

  -- a symbol that is read can begin there
  begins_there : (symbology : Symbology) (scale : ℕ) → IsRead symbology (raster p) scale
      → (x / (quiet_zone symbology).left ≡ scale) × (can_begin p x y symbology ≡ true)
  begins_there symbology scale it =
      let zone = quiet_zone symbology in
      let at = corner symbology scale it in
      let some = (zone_is symbology).1 in
      let size : x / zone.left ≡ scale =
      ap (λ n. n / zone.left) (sym at.0 ∙ omega arith) ∙ mul-div_cancel scale some in
      let parts : scale * zone.left + x % zone.left ≡ x = rw (← size) (div-add-mod' x zone.left) in
      let whole : x % zone.left ≡ 0 = omega (arith, parts, at.0) in
      let next : x + scale ≡ (zone.left + 1) * scale = omega (arith, at.0) in
      let wide : x + scale < p.width = omega (arith, next, second_wide it) in
      let light : (is_second_light symbology && p.dark (x + scale) y) ≡ false =
      elim (is_second_light symbology) as (λ b. is_second_light symbology ≡ b → (b && p.dark (x + scale) y) ≡ false) [
        | true ↦ λ is.
            (λ i. p.dark (next i) (sym at.1 i))
            ∙ sym (value_at-raster p ((zone.left + 1) * scale) (zone.top * scale) (second_wide it) it.high)
            ∙ second_is it is
        | false ↦ λ is. refl
      ] refl in
      (size, rw (size, whole, light) (grind (arith, nat_tests, it.some, wide, at.1)))

  -- read at any scale, it is read from there
  read_there : (turns k : ℕ) (symbology : Symbology) (full : List ℕ) → read_dots symbology (k + 1) (raster p) ≡ Some full
      → reading_from turns p x y symbology ≡ reading_as turns p (k + 1) symbology
  read_there turns k symbology full read =
      let there = begins_there symbology (k + 1) (is_read symbology (raster p) (k + 1) full (omega arith) read) in
      rw (there.1, there.0) refl

  module _ (turns : ℕ) where
    -- what is read from there is what the picture is read as
    read_from_there : (symbology : Symbology) (found : Found) → reading_from turns p x y symbology ≡ Some found
        → upright_reading turns p ≡ Some found
    read_from_there symbology found is = at (can_begin p x y symbology) refl
      where
        at : (b : Bool) → can_begin p x y symbology ≡ b → upright_reading turns p ≡ Some found
        at true e =
            let scale = x / (quiet_zone symbology).left in
            read_by turns p symbology scale found (ltb-true 0 scale (and_parts _ (nat_lt 0 scale) e).1) (rw e at is)
        at false e = absurd (none-some found (rw e at is))

    pub from_first : first_some (reading_from turns p x y) symbologies ≡ upright_reading turns p
    from_first = at (first_some (reading_from turns p x y) symbologies) refl
      where
        at : (o : Option Found) → first_some (reading_from turns p x y) symbologies ≡ o
            → first_some (reading_from turns p x y) symbologies ≡ upright_reading turns p
        at (Some found) e = e ∙ sym (first_answer (reading_from turns p x y) (upright_reading turns p) read_from_there
            symbologies found e)
        at None e = e ∙ sym (none_read turns p (λ symbology k full read.
            let place = place_of symbology in
            let none = each_none (reading_from turns p x y) symbologies place.0 Ean13 place.1 e in
            let found : Found = record { symbology = symbology; scale = k + 1; turns = turns; full = full } in
            let said : reading_as turns p (k + 1) symbology ≡ Some found = rw read refl in
            none-some found (sym none ∙ ap (reading_from turns p x y) place.2 ∙ read_there turns k symbology full read
            ∙ said)))
