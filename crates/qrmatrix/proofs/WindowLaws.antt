-- Windows of lines by bits of rows.
use Rattle.std.proofs.Common.{◌≡◌, ℕ, ◌+◌, ◌-◌, ◌<◌, refl, ap, ◌∙◌, arith, Bool, ◌&&◌, add-one}
use Rattle.std.proofs.Common.{true, false, inl, inr, not}
use Rattle.std.specs.Bool.{beq}
use Rattle.std.specs.Prelude.{if◌then◌else◌, nat_le}
use Rattle.std.proofs.lemmas.Bool.{cases_eq, le-leb, ne_eqb}
use Rattle.qrmatrix.specs.Private.Counting.{sum_below, count_below, one_if}
use Rattle.qrmatrix.specs.Penalty.{begins_run, run_penalty, is_uniform, window_points}
use Rattle.qrmatrix.proofs.PenaltySumLaws.{run_penalty-sum}
use Rattle.qrmatrix.proofs.Laws.SumLaws.{sum_below_same}
use Rattle.qrmatrix.proofs.RowSumLaws.{sum_exchanged}

pub count_same : (n : ℕ) (p q : ℕ → Bool) → ((i : ℕ) → i < n → p i ≡ q i) → count_below n p ≡ count_below n q
count_same n p q h = sum_below_same n (λ i. one_if (p i)) (λ i. one_if (q i)) (λ i l. ap one_if (h i l))

-- the test of five modules without its first part
pub five_equal : (line : ℕ → Bool) (i : ℕ)
    → is_uniform line i 5 ≡ (((beq (line (i + 1)) (line i) && beq (line (i + 2)) (line i))
    && beq (line (i + 3)) (line i)) && beq (line (i + 4)) (line i))
five_equal line i = grind arith

-- the window before one of one colour is of one colour where its first module has the colour of the next
window_continues : (line : ℕ → Bool) (k i : ℕ) → i ≡ k + 1 → is_uniform line i 5 ≡ true
    → is_uniform line k 5 ≡ beq (line k) (line i)
window_continues line k i e h = grind (arith, five_equal line k, five_equal line i, e, h)

-- the window before one of one colour is not, where a run begins at that one
pub not_before : (line : ℕ → Bool) (i : ℕ) → is_uniform line i 5 ≡ true
    → not (nat_le 1 i && is_uniform line (i - 1) 5) ≡ begins_run line i
not_before line i here =
    elim (cases_eq i 0) [
      | inl first ↦ rw first refl
      | inr later ↦ rw (
        window_continues line (i - 1) i (omega arith) here,
        le-leb 1 i (omega arith),
        ne_eqb i 0 later,
      ) refl
    ]

-- equal points, where it matters only in windows of one colour whether a run begins
same_points : (p b c : Bool) → (p ≡ true → b ≡ c)
    → (if p then 1 + (if b then 2 else 0) else 0) ≡ (if p then 1 + (if c then 2 else 0) else 0)
same_points true b c h = rw (h refl) refl
same_points false b c h = refl

-- the points of the windows that two lines mark: those of one colour, and those of them that begin a run
pub windows_counted : (n : ℕ) (u b uniform begins : ℕ → Bool) → ((i : ℕ) → i < n → u i ≡ uniform i)
    → ((i : ℕ) → i < n → uniform i ≡ true → b i ≡ begins i)
    → sum_below n (λ i. if u i then 1 + (if b i then 2 else 0) else 0)
    ≡ sum_below n (λ i. if uniform i then 1 + (if begins i then 2 else 0) else 0)
windows_counted n u b uniform begins is_uniform is_begin =
    sum_below_same n (λ i. if u i then 1 + (if b i then 2 else 0) else 0)
    (λ i. if uniform i then 1 + (if begins i then 2 else 0) else 0)
    (λ i h. rw (is_uniform i h) (same_points (uniform i) (b i) (begins i) (is_begin i h)))

-- the penalty of the runs of columns, window by window
pub columns_summed : (n : ℕ) (m : ℕ → ℕ → Bool)
    → sum_below n (λ x. run_penalty n (m x)) ≡ sum_below (n - 4) (λ y. sum_below n (λ x. window_points (m x) y))
columns_summed n m =
    sum_below_same n (λ x. run_penalty n (m x)) (λ x. sum_below (n - 4) (window_points (m x)))
    (λ x l. run_penalty-sum n (m x))
    ∙ sum_exchanged n (n - 4) (λ x y. window_points (m x) y)

pub sum_next : (n : ℕ) (f : ℕ → ℕ) → sum_below (n + 1) f ≡ sum_below n f + f n
sum_next n f = rw (add-one n) refl
