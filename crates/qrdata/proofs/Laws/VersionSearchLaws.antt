-- A search in rising order finds the smallest version in which the best segments fit.
use Rattle.std.proofs.Common.{◌≡◌, ℕ, zero, suc, ◌+◌, ◌-◌, ◌<◌, ◌≤◌, List, arith, Bool, true, false, inl, inr, refl}
use Rattle.std.proofs.Common.{sym}
use Rattle.std.proofs.lemmas.Bool.Decides.{nat_tests}
use Rattle.std.proofs.lemmas.Option.{none-some}
use Rattle.std.specs.Prelude.{nat_le, None, Some}
use Rattle.std.specs.List.{find, range_with_len}
use Rattle.std.proofs.lemmas.Bool.{cases_lt, cond_both, le-leb, leb-true, lt-leb}
use Rattle.labelcore.specs.declared.level.Level.{Level}
use Rattle.qrdata.specs.Segments.{cost}
use Rattle.qrdata.specs.Versions.{capacity}
use Rattle.qrdata.specs.Fewest.{NoneFits, chosen_segments, chosen_version}
use Rattle.qrdata.specs.Private.SmallestPlan.{DoNotFit}
use Rattle.qrdata.proofs.Laws.FewestBitsLaws.{chosen_segments-le_cost}

find_is : (p : ℕ → Bool) (n low v : ℕ) → low ≤ v → v < low + n → p v ≡ true → ((u : ℕ) → low ≤ u → u < v → p u ≡ false)
    → find p (range_with_len low n) ≡ Some v
find_is p zero low v from below t others = absurd (omega arith)
find_is p (suc n) low v from below t others = elim (cases_lt low v) [
  | inl more ↦ let no : p low ≡ false = others low (omega arith) more in
      rw no (find_is p n (low + 1) v (omega arith) (omega arith) t (λ u h k. others u (omega arith) k))
  | inr here ↦ let same : v ≡ low = omega arith in let yes : p low ≡ true = rw same at t in rw (yes, same) refl
]

find_none : (p : ℕ → Bool) (n low : ℕ) → ((u : ℕ) → low ≤ u → u < low + n → p u ≡ false)
    → find p (range_with_len low n) ≡ None
find_none p zero low others = refl
find_none p (suc n) low others =
    let no : p low ≡ false = others low (omega arith) (omega arith) in
    rw no (find_none p n (low + 1) (λ u h k. others u (omega arith) (omega arith)))

-- what is found is in the range, and passes
abbrev IsFound : (ℕ → Bool) → ℕ → ℕ → ℕ → Type 0
IsFound p n low v = (low ≤ v) × (v < low + n) × (p v ≡ true)

find_found : (p : ℕ → Bool) (n low v : ℕ) → find p (range_with_len low n) ≡ Some v → IsFound p n low v
find_found p zero low v e = cc
find_found p (suc n) low v e = cond_both (p low) (Some low) (find p (range_with_len (low + 1) n))
    (λ found. found ≡ Some v → IsFound p (suc n) low v)
    (λ passes here. let same : low ≡ v = cc in (omega arith, omega arith, rw same at passes))
    (λ fails later. let found = find_found p n (low + 1) v later in (omega arith, omega arith, found.2)) e

pub chosen_version-is : (lowest : ℕ) (level : Level) (bytes : List ℕ) (v : ℕ) → lowest ≤ v → v ≤ 10
    → cost v (chosen_segments v bytes) ≤ capacity v level
    → ((u : ℕ) → lowest ≤ u → u < v → DoNotFit u level bytes) → chosen_version lowest level bytes ≡ Some v
unfolding chosen_version
chosen_version-is lowest level bytes v from to fits others =
    find_is (λ version. nat_le (cost version (chosen_segments version bytes)) (capacity version level)) (11 - lowest)
    lowest v from (omega arith) (le-leb _ _ fits) (λ u h k. lt-leb _ _ (others u h k))

pub chosen_version-none : (lowest : ℕ) (level : Level) (bytes : List ℕ)
    → ((u : ℕ) → lowest ≤ u → u ≤ 10 → DoNotFit u level bytes) → chosen_version lowest level bytes ≡ None
unfolding chosen_version
chosen_version-none lowest level bytes others =
    find_none (λ version. nat_le (cost version (chosen_segments version bytes)) (capacity version level)) (11 - lowest)
    lowest (λ u h k. lt-leb _ _ (others u h (omega arith)))

-- the version that is chosen is from the lowest to 10, and the best segments fit it
pub chosen_version-found : (lowest : ℕ) (level : Level) (bytes : List ℕ) (v : ℕ)
    → chosen_version lowest level bytes ≡ Some v
    → (lowest ≤ v) × (v ≤ 10) × (cost v (chosen_segments v bytes) ≤ capacity v level)
unfolding chosen_version
chosen_version-found lowest level bytes v e =
    let found = find_found (λ version. nat_le (cost version (chosen_segments version bytes)) (capacity version level))
    (11 - lowest) lowest v e in
    (found.0, omega arith, leb-true _ _ found.2)

-- where the best segments do not fit, none do
pub NoneFits-from_chosen : (version : ℕ) (level : Level) (bytes : List ℕ) → DoNotFit version level bytes
    → NoneFits version level bytes
NoneFits-from_chosen version level bytes long segments cut =
    omega (arith, long, chosen_segments-le_cost version bytes segments cut)

find_none_from : (p : ℕ → Bool) (n low : ℕ) → find p (range_with_len low n) ≡ None → (u : ℕ) → low ≤ u → u < low + n
    → p u ≡ false
find_none_from p zero low e u from below = absurd (omega arith)
find_none_from p (suc n) low e u from below =
    cond_both (p low) (Some low) (find p (range_with_len (low + 1) n)) (λ found. found ≡ None → p u ≡ false)
    (λ passes here. absurd (none-some low (sym here)))
    (λ fails later. elim (cases_lt low u) [
      | inl more ↦ find_none_from p n (low + 1) later u (omega arith) (omega arith)
      | inr here ↦ let same : u ≡ low = omega arith in rw same fails
    ]) e

above_from : (a b : ℕ) → nat_le a b ≡ false → b < a
above_from a b e = grind (arith, nat_tests)

-- where no version is chosen, no list of segments fits
pub NoneFits-chosen_none : (lowest : ℕ) (level : Level) (bytes : List ℕ) → chosen_version lowest level bytes ≡ None
    → (v : ℕ) → lowest ≤ v → v ≤ 10 → NoneFits v level bytes
unfolding chosen_version
NoneFits-chosen_none lowest level bytes e v from to =
    NoneFits-from_chosen v level bytes (above_from _ _ (find_none_from
    (λ version. nat_le (cost version (chosen_segments version bytes)) (capacity version level)) (11 - lowest) lowest e v
    from (omega (arith, from, to))))
