-- A symbol in a mirror is not read: twelve bits of its format information are found in the other order then, and no two
-- of the 32 words agree so (ISO/IEC 18004, 7.9 and Annex C).
use Rattle.std.proofs.Common.{◌≡◌, ℕ, ◌-◌, ◌+◌, ◌<◌, ◌≤◌, Bool, true, not, ◌&&◌, List, [], ◌∷◌, take, reverse}
use Rattle.std.proofs.Common.{Option, Some, None, refl, sym, ap, ◌∙◌, arith}
use Rattle.std.specs.Bool.{beq}
use Rattle.std.specs.Cmp.{bool_eq_equiv}
use Rattle.std.specs.Cmp.Lexicographic.{pointwise}
use Rattle.std.proofs.lemmas.Bool.{and_from, false≢true}
use Rattle.std.proofs.lemmas.Cmp.{lists_equiv}
use Rattle.gf256.specs.BinaryPolynomial.{binary_remainder}
use Rattle.qrmatrix.specs.Reading.{Reading, format_copy_1, format_copy_2, read_matrix}
use Rattle.labelcore.proofs.Laws.ComputedLaws.{pairs_pass}
use Rattle.qrmatrix.proofs.Laws.FoundLaws.{IsReading-of, modules_at, word_bits}
use Rattle.qrmatrix.proofs.Laws.WordDistanceLaws.{format_word}

-- the six highest of fifteen bits in the other order; the six lowest come first
abbrev high : List Bool → List Bool
high bits = take 6 (reverse bits)

-- whether the six lowest bits of a word are the six highest of another one in the other order
crosses : ℕ → ℕ → Bool
crosses j k = pointwise beq (high (word_bits j)) (take 6 (word_bits k))

all_apart : (j k : ℕ) → j < 32 → k < 32 → not (crosses j k && crosses k j) ≡ true
unfolding crosses format_word binary_remainder
all_apart j k = pairs_pass (λ j k. not (crosses j k && crosses k j)) 32 j k refl

crosses-from : (j k : ℕ) → high (word_bits j) ≡ take 6 (word_bits k) → crosses j k ≡ true
unfolding crosses
crosses-from j k e =
    ap (λ l. pointwise beq l (take 6 (word_bits k))) e ∙ (lists_equiv bool_eq_equiv).refl (take 6 (word_bits k))

-- both copies show a word
abbrev Shows : ℕ → (ℕ → ℕ → Bool) → ℕ → Type 0
Shows n m j = (modules_at m format_copy_1 ≡ word_bits j) × (modules_at m (format_copy_2 n) ≡ word_bits j)

abbrev Cross : ℕ → ℕ → Type 0
Cross j k = (high (word_bits j) ≡ take 6 (word_bits k)) × (high (word_bits k) ≡ take 6 (word_bits j))

-- two symbols are not both read where the words that they show would cross
not_both : (n : ℕ) (m other : ℕ → ℕ → Bool) (r : Reading) → read_matrix n m ≡ Some r
    → (21 ≤ n → (j k : ℕ) → Shows n m j → Shows n other k → Cross j k) → read_matrix n other ≡ None
not_both n m other r read cross = at (read_matrix n other) refl
  where
    at : (o : Option Reading) → read_matrix n other ≡ o → read_matrix n other ≡ None
    at None is = is
    at (Some s) is =
        let one = IsReading-of n m r read in
        let two = IsReading-of n other s is in
        let j = one.information in
        let k = two.information in
        let both = cross (omega (arith, one.side, one.least)) j.message k.message (j.first, j.second)
        (k.first, k.second) in
        absurd (false≢true (sym (ap not (and_from _ _ (crosses-from j.message k.message both.0)
        (crosses-from k.message j.message both.1))) ∙ all_apart j.message k.message j.low k.low))

-- six modules in a row or a column
abbrev six : (ℕ → Bool) → List Bool
six f = f 0 ∷ f 1 ∷ f 2 ∷ f 3 ∷ f 4 ∷ f 5 ∷ []

six_same : (f g : ℕ → Bool) → ((k : ℕ) → k ≤ 5 → f k ≡ g k) → six f ≡ six g
six_same f g same =
    (λ i. same 0 (omega arith) i ∷ same 1 (omega arith) i ∷ same 2 (omega arith) i ∷ same 3 (omega arith) i
    ∷ same 4 (omega arith) i ∷ same 5 (omega arith) i ∷ [])

-- with columns for rows, left for right or upside down modules are no symbol
pub unread_in_mirrors : (n : ℕ) (m : ℕ → ℕ → Bool) (r : Reading) → read_matrix n m ≡ Some r
    → (read_matrix n (λ x y. m y x) ≡ None) × (read_matrix n (λ x y. m (n - 1 - x) y) ≡ None)
    × (read_matrix n (λ x y. m x (n - 1 - y)) ≡ None)
unread_in_mirrors n m r read = (
  not_both n m (λ x y. m y x) r read (λ large j k one two. (
    ap high (sym one.0) ∙ ap (take 6) two.0,
    ap high (sym two.0) ∙ ap (take 6) one.0,
  )),
  not_both n m (λ x y. m (n - 1 - x) y) r read (λ large j k one two. (
    ap high (sym one.0)
        ∙ six_same (λ k. m k 8) (λ k. m (n - 1 - (n - 1 - k)) 8) (λ k few. ap (λ x. m x 8) (omega (arith, large, few)))
        ∙ ap (take 6) two.1,
    ap high (sym two.0) ∙ ap (take 6) one.1,
  )),
  not_both n m (λ x y. m x (n - 1 - y)) r read (λ large j k one two. (
    ap high (sym one.1)
        ∙ six_same (λ k. m 8 (n - 15 + (14 - k))) (λ k. m 8 (n - 1 - k)) (λ k few. ap (m 8) (omega (arith, large, few)))
        ∙ ap (take 6) two.0,
    ap high (sym two.1)
        ∙ six_same (λ k. m 8 (n - 1 - (n - 15 + (14 - k)))) (m 8) (λ k few. ap (m 8) (omega (arith, large, few)))
        ∙ ap (take 6) one.0,
  )),
)
