-- The patterns of digits differ.
use Rattle.std.proofs.Common.{◌≡◌, ℕ, ◌+◌, ◌<◌, Bool, Some, None, Option, List, refl, sym, ap, ◌∙◌, arith}
use Rattle.std.specs.Prelude.{option_map, is_none, unwrap_or}
use Rattle.std.specs.Option.{option_or}
use Rattle.linear.specs.declared.ean.NumberSet.{NumberSet}
use Rattle.linear.specs.declared.ean.NumberSet.TheVariants.{A, B, C}
use Rattle.linear.specs.Tables.{number_set_a}
use Rattle.linear.specs.Ean.{pattern}
use Rattle.linear.specs.EanReading.{digit_in}
use Rattle.linear.specs.CodingLaws.{PatternsDiffer}
use Rattle.labelcore.proofs.Laws.ComputedLaws.{passes}
use Rattle.linear.proofs.Laws.PatternLaws.{none_from_test, digit_in-pattern, digit_in_a-pattern_b}

-- the number set and the digit of a pattern
identified : List Bool → Option (NumberSet × ℕ)
identified group = option_or (option_map (λ byte. (A, byte)) (digit_in A group))
    (option_or (option_map (λ byte. (B, byte)) (digit_in B group)) (option_map (λ byte. (C, byte)) (digit_in C group)))

in_a-pattern_c : (digit : ℕ) → digit < 10 → digit_in A (pattern C digit) ≡ None
unfolding number_set_a
in_a-pattern_c digit h = none_from_test _ (passes (λ d. is_none (digit_in A (pattern C d))) 10 digit refl h)

in_b-pattern_c : (digit : ℕ) → digit < 10 → digit_in B (pattern C digit) ≡ None
unfolding number_set_a
in_b-pattern_c digit h = none_from_test _ (passes (λ d. is_none (digit_in B (pattern C d))) 10 digit refl h)

identified-pattern : (set : NumberSet) (digit : ℕ) → digit < 10
    → identified (pattern set digit) ≡ Some (set, 48 + digit)
unfolding identified
identified-pattern A digit h = rw (digit_in-pattern A digit h) refl
identified-pattern B digit h = rw (digit_in_a-pattern_b digit h, digit_in-pattern B digit h) refl
identified-pattern C digit h = rw (in_a-pattern_c digit h, in_b-pattern_c digit h, digit_in-pattern C digit h) refl

pub pattern-differs : PatternsDiffer
pattern-differs set other digit second h k e =
    let same = sym (identified-pattern set digit h) ∙ ap identified e ∙ identified-pattern other second k in
    let pair = ap (λ (o : Option (NumberSet × ℕ)). unwrap_or o (A, 0)) same in (
      ap (λ (p : NumberSet × ℕ). p.0) pair,
      (let n : 48 + digit ≡ 48 + second = ap (λ (p : NumberSet × ℕ). p.1) pair in omega arith),
    )
