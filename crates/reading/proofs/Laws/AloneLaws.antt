-- What is read upright is read as that.
use Rattle.std.proofs.Common.{◌≡◌, ℕ, zero, suc, ◌+◌, ◌-◌, ◌<◌, ◌⊎◌, refl, sym, ap, ◌∙◌, arith, inl, inr, min, zero-add}
use Rattle.std.proofs.Common.{List, [], ◌∷◌, Option, Some, None, get_or, length}
use Rattle.std.proofs.lemmas.List.FromFn.{get_or-range_with_len, length-range_with_len}
use Rattle.std.proofs.lemmas.Option.{same_Some}
use Rattle.labelcore.specs.declared.symbology.Symbology.{Symbology}
use Rattle.labelcore.specs.declared.symbology.Symbology.TheVariants.{Ean13, Ean8, UpcA, Code128, Qr}
use Rattle.picture.specs.Picture.{Picture}
use Rattle.picture.specs.Reading.{raster}
use Rattle.picture.specs.Text.{below}
use Rattle.reading.specs.Found.{Found, first_some, reading_as, reading_at, upright_reading, symbologies}
use Rattle.reading.specs.Labels.{read_dots}
use Rattle.reading.proofs.Laws.ScaleLaws.{one_reading, scale_within}

-- questions that have no answer but one
module _ {A B : Type 0} (ask : A → Option B) (v : B) (each : (x : A) → (ask x ≡ None) ⊎ (ask x ≡ Some v)) where
  pub no_other : (xs : List A) → (first_some ask xs ≡ None) ⊎ (first_some ask xs ≡ Some v)
  no_other [] = inl refl
  no_other (x ∷ xs) = elim (each x) [
    | inl none ↦ rw none (no_other xs)
    | inr some ↦ inr (rw some refl)
  ]

  pub first_is : (xs : List A) (i : ℕ) (d : A) → i < length xs → ask (get_or xs i d) ≡ Some v → first_some ask xs ≡ Some v
  first_is [] i d inside e = absurd (omega (arith, inside))
  first_is (x ∷ xs) zero d inside e = rw e refl
  first_is (x ∷ xs) (suc i) d inside e = elim (each x) [
    | inl none ↦ rw none (first_is xs i d (omega (arith, inside)) e)
    | inr some ↦ rw some refl
  ]

-- the place of a symbology
pub place_of : (a : Symbology) → (i : ℕ) × (i < length symbologies) × (get_or symbologies i Ean13 ≡ a)
place_of Ean13 = (0, omega arith, refl)
place_of Ean8 = (1, omega arith, refl)
place_of UpcA = (2, omega arith, refl)
place_of Code128 = (3, omega arith, refl)
place_of Qr = (4, omega arith, refl)

module _ (turns : ℕ) (p : Picture) (symbology : Symbology) (scale : ℕ) (full : List ℕ) (some : 0 < scale)
    (read : read_dots symbology scale (raster p) ≡ Some full) where
  abbrev pub it : Found
  it = record { symbology = symbology; scale = scale; turns = turns; full = full }

  by_each : (k : ℕ) (other : Symbology) → (reading_as turns p (k + 1) other ≡ None) ⊎ (reading_as turns p (k + 1) other ≡ Some it)
  by_each k other = at (read_dots other (k + 1) (raster p)) refl
    where
      at : (o : Option (List ℕ)) → read_dots other (k + 1) (raster p) ≡ o
          → (reading_as turns p (k + 1) other ≡ None) ⊎ (reading_as turns p (k + 1) other ≡ Some it)
      at None e = inl (rw e refl)
      at (Some more) e =
          let same = one_reading (raster p) other symbology (k + 1) scale more full (omega arith) some e read in
          let said : more ≡ full = same_Some more full (sym e ∙ (λ i. read_dots (same.0 i) (same.1 i) (raster p)) ∙ read) in
          inr (rw e (λ i. Some (record { symbology = same.0 i; scale = same.1 i; turns = turns; full = said i })))

  at_each : (k : ℕ) → (reading_at turns p (k + 1) ≡ None) ⊎ (reading_at turns p (k + 1) ≡ Some it)
  at_each k = no_other (reading_as turns p (k + 1)) it (by_each k) symbologies

  here : reading_at turns p (scale - 1 + 1) ≡ Some it
  here =
      let whole : scale - 1 + 1 ≡ scale = omega (arith, some) in
      let place = place_of symbology in
      first_is (reading_as turns p (scale - 1 + 1)) it (by_each (scale - 1)) symbologies place.0 Ean13 place.1
      (ap (reading_as turns p (scale - 1 + 1)) place.2 ∙ rw (whole, read) refl)

  pub read_upright : upright_reading turns p ≡ Some it
  read_upright =
      let within = scale_within (raster p) symbology scale full some read in
      let inside : scale - 1 < min p.width p.height = omega (arith, some, within.0, within.1) in
      first_is (λ k. reading_at turns p (k + 1)) it at_each (below (min p.width p.height)) (scale - 1) 0
      (omega (arith, inside, length-range_with_len 0 (min p.width p.height)))
      (ap (λ k. reading_at turns p (k + 1)) (get_or-range_with_len 0 (min p.width p.height) (scale - 1) 0 inside
      ∙ zero-add (scale - 1)) ∙ here)
