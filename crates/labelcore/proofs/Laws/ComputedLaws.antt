-- What is computed for each number of a range holds for each of them, and so does what is computed for each row of bits.
use Rattle.std.proofs.Common.{◌≡◌, ℕ, ◌+◌, ◌-◌, ◌<◌, ◌≤◌, ◌==◌, sym, ap, subst, ◌∙◌, arith, map, Bool, true, false, zero-add}
use Rattle.std.proofs.Common.{suc, zero, refl, ◌&&◌, Option, None, Some, List, [], ◌∷◌, length}
use Rattle.std.specs.Prelude.{slice_index_or}
use Rattle.std.specs.List.{list_all, range_with_len}
use Rattle.std.proofs.lemmas.Bool.{and_parts, eqb-true, false≢true}
use Rattle.std.proofs.lemmas.List.FromFn.{get_or-map-range_with_len, get_or-range_with_len, length-range_with_len}
use Rattle.std.proofs.lemmas.List.Sums.{AllPass-from_list_all}

-- two functions have the same values from a on
pub same_at : {A : Type 0} (a n : ℕ) (f g : ℕ → A) → map f (range_with_len a n) ≡ map g (range_with_len a n) → (k : ℕ)
    → a ≤ k → k < a + n → f k ≡ g k
same_at a n f g e k l h =
    sym (get_or-map-range_with_len f a n (k - a) k (f k) (omega arith) (omega arith))
    ∙ ap (λ xs. slice_index_or xs (k - a) (f k)) e
    ∙ get_or-map-range_with_len g a n (k - a) k (f k) (omega arith) (omega arith)

-- two functions have the same values at each version
pub by_version : {A : Type 0} (f g : ℕ → A) → map f (range_with_len 1 10) ≡ map g (range_with_len 1 10) → (v : ℕ)
    → 1 ≤ v → v ≤ 10 → f v ≡ g v
by_version f g e v l h = same_at 1 10 f g e v l (omega arith)

-- each number below n passes
pub passes : (test : ℕ → Bool) (n k : ℕ) → list_all test (range_with_len 0 n) ≡ true → k < n → test k ≡ true
passes test n k all below =
    subst (λ j. test j ≡ true) (get_or-range_with_len 0 n k 0 below ∙ zero-add k)
    (AllPass-from_list_all test (range_with_len 0 n) all k 0 (omega (arith, length-range_with_len 0 n)))

-- a test that nothing fails
pub always : (a n : ℕ) → list_all (λ x. true) (range_with_len a n) ≡ true
always a zero = refl
always a (suc n) = always (a + 1) n

-- a fact on each number below four
pub by_four : (P : ℕ → Type 0) → P 0 → P 1 → P 2 → P 3 → (j : ℕ) → j < 4 → P j
by_four P a b c d zero l = a
by_four P a b c d (suc zero) l = b
by_four P a b c d (suc (suc zero)) l = c
by_four P a b c d (suc (suc (suc zero))) l = d
by_four P a b c d (suc (suc (suc (suc j)))) l = absurd (omega (arith, l))

-- each pair of numbers below n passes
pub pairs_pass : (test : ℕ → ℕ → Bool) (n j k : ℕ)
    → list_all (λ j. list_all (test j) (range_with_len 0 n)) (range_with_len 0 n) ≡ true → j < n → k < n
    → test j k ≡ true
pairs_pass test n j k all first second =
    passes (test j) n k (passes (λ j. list_all (test j) (range_with_len 0 n)) n j all first) second

-- a test of numbers in turn
pub passes_on : (test : ℕ → Bool) (a b n m : ℕ) → n ≡ suc m → b ≡ a + 1 → true ≡ test a
    → list_all test (range_with_len a n) ≡ list_all test (range_with_len b m)
passes_on test a b n m more next passes = rw (more, next, ← passes) refl

-- two tests agree on the numbers below n
pub same_tests : (p q : ℕ → Bool) (n : ℕ) → ((k : ℕ) → k < n → p k ≡ q k)
    → list_all p (range_with_len 0 n) ≡ list_all q (range_with_len 0 n)
same_tests p q n same = from 0 n (λ k low high. same k (omega (arith, high)))
  where
    from : (a m : ℕ) → ((k : ℕ) → a ≤ k → k < a + m → p k ≡ q k)
        → list_all p (range_with_len a m) ≡ list_all q (range_with_len a m)
    from a zero each = refl
    from a (suc m) each = rw (
      each a (omega arith) (omega arith),
      from (a + 1) m (λ k low high. each k (omega arith) (omega arith)),
    ) refl

-- whether both are the same number, or both none
abbrev pub same_found : Option ℕ → Option ℕ → Bool
same_found None None = true
same_found (Some n) (Some m) = n == m
same_found None (Some m) = false
same_found (Some n) None = false

pub found_is : (found other : Option ℕ) → same_found found other ≡ true → found ≡ other
found_is None None h = refl
found_is (Some n) (Some m) h = ap Some (eqb-true n m h)
found_is None (Some m) h = absurd (false≢true h)
found_is (Some n) None h = absurd (false≢true h)

-- whether all rows of so many bits pass a test
unfoldable pub all_rows : ℕ → (List Bool → Bool) → Bool
all_rows zero test = test []
all_rows (suc n) test = all_rows n (λ row. test (true ∷ row)) && all_rows n (λ row. test (false ∷ row))

pub passes_row : (n : ℕ) (test : List Bool → Bool) (row : List Bool) → all_rows n test ≡ true → length row ≡ n
    → test row ≡ true
unfolding all_rows
passes_row zero test [] all long = all
passes_row zero test (dark ∷ row) all long = absurd (omega (arith, long))
passes_row (suc n) test [] all long = absurd (omega (arith, long))
passes_row (suc n) test (true ∷ row) all long =
    passes_row n (λ rest. test (true ∷ rest)) row (and_parts _ _ all).0 (omega (arith, long))
passes_row (suc n) test (false ∷ row) all long =
    passes_row n (λ rest. test (false ∷ rest)) row (and_parts _ _ all).1 (omega (arith, long))
