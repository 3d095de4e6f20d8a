-- Windows that look like a finder pattern, in two parts: the pattern, and the four light modules beside it.
use Rattle.std.proofs.Common.{◌≡◌, ℕ, zero, suc, ◌+◌, ◌-◌, ◌≤◌, refl, arith, Bool, true, false, ◌&&◌, ◌||◌, ◌++◌}
use Rattle.std.proofs.Common.{add-zero, List, [], ◌∷◌, length, inl, inr}
use Rattle.std.specs.Prelude.{nat_lt, if◌then◌else◌}
use Rattle.std.proofs.lemmas.Bool.{cases_eq, le-ltb}
use Rattle.std.proofs.lemmas.Bool.Decides.{nat_tests}
use Rattle.qrmatrix.specs.Penalty.{shows, shows_finder}
use Rattle.qrmatrix.specs.Private.Counting.{sum_below}
use Rattle.qrmatrix.specs.Private.PenaltyParts.{finder_from, light_from}
use Rattle.qrmatrix.proofs.Laws.SumLaws.{sum_below_same}

-- a pattern after another one
shows-append : (line : ℕ → Bool) (i : ℕ) (xs ys : List Bool)
    → shows line i (xs ++ ys) ≡ (shows line i xs && shows line (i + length xs) ys)
shows-append line i [] ys = rw (add-zero i) refl
shows-append line i (x ∷ xs) ys =
    let next : i + 1 + length xs ≡ i + suc (length xs) = omega arith in
    rw (shows-append line (i + 1) xs ys, next) (grind arith)

-- the two parts of a window
abbrev finder_pattern : List Bool
finder_pattern = true ∷ false ∷ true ∷ true ∷ true ∷ false ∷ true ∷ []

abbrev four_light : List Bool
four_light = false ∷ false ∷ false ∷ false ∷ []

shows-finder : (line : ℕ → Bool) (i : ℕ) → shows line i finder_pattern ≡ finder_from line i
shows-finder line i = grind arith

shows-light : (line : ℕ → Bool) (i : ℕ) → shows line i four_light ≡ light_from line i
shows-light line i = grind arith

-- a window is a finder pattern with light modules after it or before it
pub shows_finder-parts : (line : ℕ → Bool) (i : ℕ) → shows_finder line i
    ≡ ((finder_from line i && light_from line (i + 7)) || (light_from line i && finder_from line (i + 4)))
shows_finder-parts line i =
    rw (
      shows-append line i finder_pattern four_light,
      shows-append line i four_light finder_pattern,
      shows-finder line i,
      shows-finder line (i + 4),
      shows-light line i,
      shows-light line (i + 7),
    )
    refl

-- a sum of what is 0 from k on
sum_until : (n k : ℕ) (f : ℕ → ℕ) → k ≤ n → sum_below n (λ y. if nat_lt y k then f y else 0) ≡ sum_below k f
sum_until zero k f l = let none : k ≡ 0 = omega arith in rw none refl
sum_until (suc n) k f l =
    elim (cases_eq k (suc n)) [
      | inl e ↦ rw e (sum_below_same (suc n) (λ y. if nat_lt y (suc n) then f y else 0) f
          (λ y m. grind (arith, nat_tests)))
      | inr ne ↦ rw (sum_until n k f (omega arith), le-ltb n k (omega arith)) (add-zero (sum_below k f))
    ]

-- squares of one colour begin in each row but the last
pub all_but_last : (n : ℕ) (f : ℕ → ℕ) → sum_below n (λ y. if nat_lt y (n - 1) then f y else 0) ≡ sum_below (n - 1) f
all_but_last n f = sum_until n (n - 1) f (omega arith)
