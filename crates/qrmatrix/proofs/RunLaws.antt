-- The points of the runs of a line as marks: one at each window of five equal modules, and two after the last window of
-- a run.
use Rattle.std.proofs.Common.{◌≡◌, ℕ, zero, suc, ◌+◌, ◌-◌, ◌<◌, ◌≤◌, refl, ap, arith, Bool, true, not}
use Rattle.std.specs.Prelude.{nat_le, nat_lt, ◌&&◌, ◌||◌, if◌then◌else◌}
use Rattle.std.proofs.lemmas.Bool.Decides.{nat_tests}
use Rattle.qrmatrix.specs.Penalty.{is_uniform}
use Rattle.qrmatrix.specs.Private.Counting.{count_below, one_if, sum_below}
use Rattle.qrmatrix.proofs.WindowLaws.{count_same, five_equal}

-- the places below k that pass a test
abbrev pub low : ℕ → (ℕ → Bool) → ℕ → Bool
low k p i = nat_lt i k && p i

-- the marked places, and the place after each
abbrev pub one_more : (ℕ → Bool) → ℕ → Bool
one_more p i = p i || (nat_le 1 i && p (i - 1))

-- the places below k that pass a test, and two places after each
abbrev pub marks : ℕ → (ℕ → Bool) → ℕ → Bool
marks k p = one_more (one_more (low k p))

-- a window between two of one colour that are two places apart is of one colour
pub between : (line : ℕ → Bool) (i : ℕ) → is_uniform line i 5 ≡ true → is_uniform line (i + 2) 5 ≡ true
    → is_uniform line (i + 1) 5 ≡ true
between line i first last = grind (arith, five_equal line i, five_equal line (i + 1), five_equal line (i + 2), first, last)

-- three places more are marked where a run begins, one where it goes on, and none where there is no window
next_marked : (here before two_before : Bool) → (here ≡ true → two_before ≡ true → before ≡ true)
    → one_if (here || (before || two_before)) + one_if (here || before) + one_if here
    ≡ one_if (before || two_before) + one_if before + (if here then 1 + (if not before then 2 else 0) else 0)
next_marked here before two_before h = grind arith

-- a place below k is below k + 1 too
low_same : (k i : ℕ) (b : Bool) → i < k → (nat_lt i (suc k) && b) ≡ (nat_lt i k && b)
low_same k i b l = grind (arith, nat_tests)

marks_same : (k : ℕ) (p : ℕ → Bool) (i : ℕ) → i < k → marks (suc k) p i ≡ marks k p i
marks_same k p i l =
    rw (
      low_same k i (p i) l,
      low_same k (i - 1) (p (i - 1)) (omega arith),
      low_same k (i - 1 - 1) (p (i - 1 - 1)) (omega arith),
    )
    refl

-- the marks at k, k + 1 and k + 2, where x, y and z say whether k, k - 1 and k - 2 pass the test
at_last : (k : ℕ) (x y z : Bool)
    → (((nat_lt k (suc k) && x) || (nat_le 1 k && (nat_lt (k - 1) (suc k) && y)))
    || (nat_le 1 k && ((nat_lt (k - 1) (suc k) && y) || (nat_le 1 (k - 1) && (nat_lt (k - 1 - 1) (suc k) && z)))))
    ≡ (x || ((nat_le 1 k && y) || (nat_le 2 k && z)))
at_last k x y z = grind (arith, nat_tests)

after_last : (k : ℕ) (w x y : Bool)
    → (((nat_lt (suc k) (suc k) && w) || (nat_le 1 (suc k) && (nat_lt k (suc k) && x)))
    || (nat_le 1 (suc k) && ((nat_lt k (suc k) && x) || (nat_le 1 k && (nat_lt (k - 1) (suc k) && y)))))
    ≡ (x || (nat_le 1 k && y))
after_last k w x y = grind (arith, nat_tests)

two_after_last : (k : ℕ) (v w x : Bool)
    → (((nat_lt (suc (suc k)) (suc k) && v) || (nat_le 1 (suc (suc k)) && (nat_lt (suc k) (suc k) && w)))
    || (nat_le 1 (suc (suc k)) && ((nat_lt (suc k) (suc k) && w) || (nat_le 1 (suc k) && (nat_lt k (suc k) && x)))))
    ≡ x
two_after_last k v w x = grind (arith, nat_tests)

-- and at k and k + 1 without that at k
at_end : (k : ℕ) (x y z : Bool)
    → (((nat_lt k k && x) || (nat_le 1 k && (nat_lt (k - 1) k && y)))
    || (nat_le 1 k && ((nat_lt (k - 1) k && y) || (nat_le 1 (k - 1) && (nat_lt (k - 1 - 1) k && z)))))
    ≡ ((nat_le 1 k && y) || (nat_le 2 k && z))
at_end k x y z = grind (arith, nat_tests)

after_end : (k : ℕ) (w x y : Bool)
    → (((nat_lt (suc k) k && w) || (nat_le 1 (suc k) && (nat_lt k k && x)))
    || (nat_le 1 (suc k) && ((nat_lt k k && x) || (nat_le 1 k && (nat_lt (k - 1) k && y)))))
    ≡ (nat_le 1 k && y)
after_end k w x y = grind (arith, nat_tests)

marked_after : (k n : ℕ) (p : ℕ → Bool) (b : Bool)
    → (((nat_lt (suc k) n && p (suc k)) || (nat_le 1 (suc k) && (nat_lt k n && p k)))
    || (nat_le 1 (suc k) && ((nat_lt k n && p k) || (nat_le 1 k && (nat_lt (k - 1) n && p (k - 1)))))) ≡ b
    → marks n p (suc k) ≡ b
marked_after k n p b e = let before : suc k - 1 ≡ k = omega arith in rw before e

marked_twice_after : (k : ℕ) (p : ℕ → Bool) → marks (suc k) p (suc (suc k)) ≡ p k
marked_twice_after k p =
    let before : suc (suc k) - 1 ≡ suc k = omega arith in
    let two_before : suc k - 1 ≡ k = omega arith in
    rw (before, two_before) (two_after_last k (p (suc (suc k))) (p (suc k)) (p k))

no_gap : (k : ℕ) (p : ℕ → Bool) → ((i : ℕ) → p i ≡ true → p (i + 2) ≡ true → p (i + 1) ≡ true)
    → 2 ≤ k → p (k - 1 - 1) ≡ true → p k ≡ true → p (k - 1) ≡ true
no_gap k p h many =
    let two : k - 1 - 1 + 2 ≡ k = omega arith in
    let one : k - 1 - 1 + 1 ≡ k - 1 = omega arith in
    rw (two, one) at (h (k - 1 - 1))

-- no window begins two places before one where a run begins
no_hole : (k : ℕ) (p : ℕ → Bool) → (2 ≤ k → p (k - 1 - 1) ≡ true → p k ≡ true → p (k - 1) ≡ true) → p k ≡ true
    → (nat_le 2 k && p (k - 1 - 1)) ≡ true → (nat_le 1 k && p (k - 1)) ≡ true
no_hole k p h here there =
    let many : 2 ≤ k = grind (arith, nat_tests, there) in
    let before = h many (grind (arith, there)) here in
    grind (arith, nat_tests, before)

-- the marks are the points of the windows
pub marks_counted : (k : ℕ) (p : ℕ → Bool) → ((i : ℕ) → p i ≡ true → p (i + 2) ≡ true → p (i + 1) ≡ true)
    → count_below (k + 2) (marks k p)
    ≡ sum_below k (λ i. if p i then 1 + (if not (nat_le 1 i && p (i - 1)) then 2 else 0) else 0)
marks_counted zero p h = refl
marks_counted (suc k) p h =
    let before = nat_le 1 k && p (k - 1) in
    let two_before = nat_le 2 k && p (k - 1 - 1) in
    let same = count_same k (marks (suc k) p) (marks k p) (marks_same k p) in
    let last = next_marked (p k) before two_before (no_hole k p (no_gap k p h)) in
    let a : marks (suc k) p k ≡ (p k || (before || two_before)) = at_last k (p k) (p (k - 1)) (p (k - 1 - 1)) in
    let b = marked_after k (suc k) p (p k || before) (after_last k (p (suc k)) (p k) (p (k - 1))) in
    let c = marked_twice_after k p in
    let d : marks k p k ≡ (before || two_before) = at_end k (p k) (p (k - 1)) (p (k - 1 - 1)) in
    let e = marked_after k k p before (after_end k (p (suc k)) (p k) (p (k - 1))) in
    let long : suc k + 2 ≡ suc (suc (suc k)) = omega arith in
    let short : k + 2 ≡ suc (suc k) = omega arith in
    let earlier = rw short at (marks_counted k p h) in
    rw long (omega (arith, earlier, same, last, ap one_if a, ap one_if b, ap one_if c, ap one_if d, ap one_if e))

-- the marks by operations on whole words
pub marks_are : (k width : ℕ) (p uniform windows up more up_again all : ℕ → Bool)
    → ((i : ℕ) → i < width → uniform i ≡ p i)
    → ((i : ℕ) → windows i ≡ (nat_lt i k && uniform i))
    → ((i : ℕ) → i < width → up i ≡ (nat_le 1 i && windows (i - 1)))
    → ((i : ℕ) → more i ≡ (windows i || up i))
    → ((i : ℕ) → i < width → up_again i ≡ (nat_le 1 i && more (i - 1)))
    → ((i : ℕ) → all i ≡ (more i || up_again i))
    → (i : ℕ) → i < width → all i ≡ marks k p i
marks_are k width p uniform windows up more up_again all is_uniform is_window is_up is_more is_again is_all i l =
    rw (
      is_all i,
      is_again i l,
      is_more i,
      is_more (i - 1),
      is_up i l,
      is_up (i - 1) (omega arith),
      is_window i,
      is_window (i - 1),
      is_window (i - 1 - 1),
      is_uniform i l,
      is_uniform (i - 1) (omega arith),
      is_uniform (i - 1 - 1) (omega arith),
    )
    refl
