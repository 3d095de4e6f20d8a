-- The order of choices: fewer bits first, and of equally many the longer one.
use Rattle.std.proofs.Common.{◌≡◌, ℕ, zero, suc, ◌%◌, ◌<◌, ◌≤◌, arith, inl, inr, true, false, refl}
use Rattle.std.proofs.lemmas.Bool.{cases_lt, cond_both}
use Rattle.std.proofs.lemmas.Bool.Decides.{nat_tests}
use Rattle.qrdata.specs.Private.ChoiceView.{ChoiceView, choice_in, mode_at, rank_of}
use Rattle.qrdata.specs.Private.Table.{better_choice, is_better}

-- a choice comes no later than one of `bits` bits and this length
pub record Beats (c : ChoiceView) (bits len : ℕ) : Type 0 where
  pub low : c.bits ≤ bits
  pub strict : c.segment.len < len → c.bits < bits

Beats-then : {c d : ChoiceView} {bits len : ℕ} → Beats c d.bits d.segment.len → Beats d bits len → Beats c bits len
Beats-then {c} {d} {bits} {len} first second = record {
  low = omega (arith, first.low, second.low);
  strict = λ less. elim (cases_lt c.segment.len d.segment.len) [
    | inl shorter ↦ omega (arith, first.strict shorter, second.low)
    | inr longer ↦ omega (arith, first.low, second.strict (omega arith))
  ];
}

-- what holds of both holds of the better one
pub better-one : (P : ChoiceView → Type 0) (c d : ChoiceView) → P c → P d → P (better_choice c d)
unfolding better_choice
better-one P c d h k = cond_both (is_better c d) d c P (λ yes. k) (λ no. h)

pub better-left : {c : ChoiceView} (d : ChoiceView) {bits len : ℕ} → Beats c bits len
    → Beats (better_choice c d) bits len
unfolding better_choice
better-left {c} d {bits} {len} first = cond_both (is_better c d) d c (λ e. Beats e bits len)
    (λ yes. Beats-then {c = d} {d = c}
    (record { low = grind (arith, nat_tests); strict = λ less. grind (arith, nat_tests) }) first)
    (λ no. first)

pub better-right : (c : ChoiceView) {d : ChoiceView} {bits len : ℕ} → Beats d bits len
    → Beats (better_choice c d) bits len
unfolding better_choice
better-right c {d} {bits} {len} second = cond_both (is_better c d) d c (λ e. Beats e bits len) (λ yes. second)
    (λ no. Beats-then {c = c} {d = d}
    (record { low = grind (arith, nat_tests); strict = λ less. grind (arith, nat_tests) }) second)

-- the better choice is that of the lower key
pub rank_of-mode_at : (rank : ℕ) → rank < 3 → rank_of (mode_at rank) ≡ rank
rank_of-mode_at zero few = refl
rank_of-mode_at (suc zero) few = refl
rank_of-mode_at (suc (suc zero)) few = refl
rank_of-mode_at (suc (suc (suc rank))) few = absurd (omega arith)

pub is_lighter : (w x : ℕ) → w % 4 < 3 → x % 4 < 3 → x < w → is_better (choice_in w) (choice_in x) ≡ true
is_lighter w x known_w known_x less = rw (rank_of-mode_at (w % 4) known_w, rank_of-mode_at (x % 4) known_x)
    (grind (arith, nat_tests))

pub is_no_lighter : (w x : ℕ) → w % 4 < 3 → x % 4 < 3 → w ≤ x → is_better (choice_in w) (choice_in x) ≡ false
is_no_lighter w x known_w known_x more = rw (rank_of-mode_at (w % 4) known_w, rank_of-mode_at (x % 4) known_x)
    (grind (arith, nat_tests))
