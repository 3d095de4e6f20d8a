-- The choice of the mask.
use Rattle.std.proofs.Common.{◌≡◌, ℕ, ◌+◌, ◌<◌, ◌≤◌, ◌⊎◌, refl, ◌∙◌, arith, zero, suc, inl, inr}
use Rattle.std.specs.Prelude.{IfSome, List, None, Option, Some, map, nat_le, nat_lt}
use Rattle.qrmatrix.specs.Private.Counting.{one_if}
use Rattle.qrmatrix.specs.Private.MaskOrder.{turn_of}
use Rattle.std.specs.List.{range_with_len, list_all, position_or_len}
use Rattle.std.proofs.lemmas.Bool.{cases_lt, le-leb, lt-leb}
use Rattle.std.proofs.lemmas.List.Folds.{list_all-map, list_all_at}
use Rattle.qrmatrix.proofs.Laws.SumLaws.{list_all-range}
use Rattle.std.proofs.lemmas.List.Sums.{position_or_len_is}
use Rattle.std.proofs.lemmas.List.FromFn.{get_or-map-range_with_len}
use Rattle.labelcore.specs.declared.level.Level.{Level}
use Rattle.labelcore.specs.Ranges.{IsMask}
use Rattle.qrdata.specs.Versions.{side_of}
use Rattle.qrmatrix.specs.MaskChoice.{chosen_mask}
use Rattle.qrmatrix.specs.Modules.{module_at}
use Rattle.qrmatrix.specs.Penalty.{penalty}

-- of the numbers that were tried, in any order, k has the lowest value of f, and is the first that has it
pub record Lowest (f : ℕ → ℕ) (tried : ℕ → Type 0) (k : ℕ) : Type 0 where
  pub among : tried k
  pub lowest : (j : ℕ) → tried j → f k ≤ f j
  pub first : (j : ℕ) → tried j → j < k → f k < f j

-- the lowest value of the numbers that were tried is that of k
pub record Found (f : ℕ → ℕ) (tried : ℕ → Type 0) (k value : ℕ) : Type 0 where
  pub lowest : Lowest f tried k
  pub at : value ≡ f k

-- a number more is tried
pub record TriesOne (tried after : ℕ → Type 0) (n : ℕ) : Type 0 where
  pub now : after n
  pub still : (j : ℕ) → tried j → after j
  pub alone : (j : ℕ) → after j → tried j ⊎ (j ≡ n)

-- its value is below that of k, or the same where it is before k
pub Found-lower : {f : ℕ → ℕ} {tried after : ℕ → Type 0} {n k value next low : ℕ} → Found f tried k value
    → TriesOne tried after n → next ≡ n → low ≡ f n → low < value + one_if (nat_lt n k) → Found f after next low
Found-lower {f} {tried} {after} {n} {k} {value} {next} {low} found one last at less =
    let e = found.at in
    let below : (j : ℕ) → tried j → f n ≤ f j = λ j h. grind (arith, found.lowest.lowest j h) in
    let first : (j : ℕ) → tried j → j < n → f n < f j =
    λ j h l. grind (arith, found.lowest.lowest j h, found.lowest.first j h) in
    rw last record {
      lowest = record {
        among = one.now;
        lowest = λ j h. elim (one.alone j h) [ inl before ↦ below j before | inr same ↦ grind (arith, same) ];
        first = λ j h l. elim (one.alone j h) [ inl before ↦ first j before l | inr same ↦ absurd (omega arith) ];
      };
      at = at;
    }

-- its value is not below that of k
pub Found-kept : {f : ℕ → ℕ} {tried after : ℕ → Type 0} {n k value : ℕ} → Found f tried k value → TriesOne tried after n
    → value + one_if (nat_lt n k) ≤ f n → Found f after k value
Found-kept {f} {tried} {after} {n} {k} {value} found one more =
    let e = found.at in
    record {
      lowest = record {
        among = one.still k found.lowest.among;
        lowest = λ j h. elim (one.alone j h) [
          | inl before ↦ found.lowest.lowest j before
          | inr same ↦ grind (arith, same)
        ];
        first = λ j h l. elim (one.alone j h) [
          | inl before ↦ found.lowest.first j before l
          | inr same ↦ grind (arith, same)
        ];
      };
      at = found.at;
    }

-- the place of the lowest of eight numbers
pub lowest_of_eight : (f : ℕ → ℕ) {tried : ℕ → Type 0} (k : ℕ) → Lowest f tried k → k < 8
    → ((j : ℕ) → j < 8 → tried j)
    → let ps = map f (range_with_len 0 8) in position_or_len (λ p. list_all (nat_le p) ps) ps ≡ k
lowest_of_eight f k l among all =
    let at = λ (j : ℕ) (h : j < 8). get_or-map-range_with_len f 0 8 j j 0 h (omega arith) in
    let ps = map f (range_with_len 0 8) in
    position_or_len_is (λ p. list_all (nat_le p) ps) ps k 0 (omega arith)
    (λ j h. rw (at j (omega arith))
    (list_all_at (nat_le (f j)) ps k 0 among
    (rw (at k among) (lt-leb (f j) (f k) (l.first j (all j (omega arith)) h)))))
    (λ h. rw (at k h) (list_all-map (nat_le (f k)) f (range_with_len 0 8)
    ∙ list_all-range 0 8 (λ j. nat_le (f k) (f j)) (λ j a. le-leb (f k) (f j) (l.lowest j (all j a)))))

-- a mask more is tried
pub next_turn : (turn n : ℕ) → turn_of n ≡ turn
    → TriesOne (λ j. turn_of j < turn) (λ j. turn_of j < turn + 1) n
next_turn turn n e = record {
  now = omega (arith, e);
  still = λ j h. omega arith;
  alone = λ j h. elim (cases_lt (turn_of j) turn) [ inl l ↦ inl l | inr g ↦ inr (grind (arith, e)) ];
}

-- one number more than those below n
one_more : (n : ℕ) → TriesOne (λ j. j < n) (λ j. j < suc n) n
one_more n = record {
  now = omega arith;
  still = λ j h. omega arith;
  alone = λ j h. elim (cases_lt j n) [ inl l ↦ inl l | inr g ↦ inr (omega arith) ];
}

-- one of the first numbers has the lowest value
some_lowest : (f : ℕ → ℕ) (n : ℕ) → (k : ℕ) × Lowest f (λ j. j < suc n) k
some_lowest f zero = (
  0,
  record { among = omega arith; lowest = λ j h. grind arith; first = λ j h l. absurd (omega arith) },
)
some_lowest f (suc n) =
    let before = some_lowest f n in
    let k = before.0 in
    let found : Found f (λ j. j < suc n) k (f k) = record { lowest = before.1; at = refl } in
    elim (cases_lt (f (suc n)) (f k + one_if (nat_lt (suc n) k))) [
      | inl less ↦ (suc n, (Found-lower found (one_more (suc n)) refl refl less).lowest)
      | inr more ↦ (k, (Found-kept found (one_more (suc n)) more).lowest)
    ]

-- an asked mask is below 8
pub mask_below : (asked : Option ℕ) → IsMask asked → IfSome asked (λ mask. mask < 8)
mask_below asked fits = grind arith

-- a symbol's mask is 0 to 7
pub chosen_mask-lt : (v : ℕ) (level : Level) (asked : Option ℕ) (codewords : List ℕ) → IfSome asked (λ mask. mask < 8)
    → chosen_mask v level asked codewords < 8
unfolding chosen_mask
chosen_mask-lt v level (Some mask) codewords h = h
chosen_mask-lt v level None codewords h =
    let f = λ (mask : ℕ). penalty (side_of v) (module_at v level mask codewords) in
    let least = some_lowest f 7 in
    rw (lowest_of_eight f least.0 least.1 least.1.among (λ j h. h)) least.1.among
