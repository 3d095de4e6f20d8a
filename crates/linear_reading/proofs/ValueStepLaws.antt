-- The values of a Code 128 symbol are read one after another (ISO/IEC 15417, code sets).
use Rattle.std.proofs.Common.{◌≡◌, ◌<◌, ℕ, ◌+◌, Bool, true, false, drop, get_or, length, Option, Some, None, List, [], ◌++◌, refl, sym, ap, append_assoc, ◌∙◌, ◌≤◌}
use Rattle.std.proofs.lemmas.Iterator.Adapters.{option_map_id}
use Rattle.std.proofs.lemmas.List.{append-nil, drop_all, drop_more}
use Rattle.std.specs.Bool.{then_some}
use Rattle.std.specs.Prelude.{option_and_then, option_map, if◌then◌else◌, not}
use Rattle.linear.specs.declared.switching.CodeSet.{CodeSet}
use Rattle.linear.specs.Code128Reading.{Meaning, meaning, other_set, read_values, text, change, shift, none}
use Rattle.linear.proofs.Laws.ValueReadingLaws.{read_next}
use Rattle.linear_reading.specs.Private.Meanings.{step}

-- what was read before, and the bytes of values that are still to be read
unfoldable pub with_values : List ℕ → CodeSet → Bool → List ℕ → Option (List ℕ)
with_values before set is_shifted values =
    option_map (λ rest. before ++ rest) (read_values set is_shifted values)

-- the values after one of this meaning
then_values : (before : List ℕ) (set : CodeSet) (is_shifted : Bool) (rest : List ℕ) (m : Meaning)
    → option_and_then (λ next. with_values next.0 next.1.0 next.1.1 rest) (step before set is_shifted m)
    ≡ option_map (λ more. before ++ more) (read_next set is_shifted rest m)
unfolding with_values read_next
then_values before set is_shifted rest (text bytes) = joined (read_values set false rest)
  where
    joined : (more : Option (List ℕ)) → option_map (λ more. (before ++ bytes) ++ more) more
        ≡ option_map (λ more. before ++ more) (option_map (λ more. bytes ++ more) more)
    joined None = refl
    joined (Some more) = ap Some (append_assoc before bytes more)
then_values before set true rest (change next) = refl
then_values before set false rest (change next) = refl
then_values before set true rest shift = refl
then_values before set false rest shift = refl
then_values before set is_shifted rest none = refl

module _ (before : List ℕ) (set : CodeSet) (is_shifted : Bool) (values : List ℕ) (i : ℕ) where
  -- what one value does
  abbrev step_at : Option (List ℕ × (CodeSet × Bool))
  step_at = step before set is_shifted (meaning (if is_shifted then other_set set else set) (get_or values i 0))

  next_values : i < length values → with_values before set is_shifted (drop i values)
      ≡ option_and_then (λ next. with_values next.0 next.1.0 next.1.1 (drop (i + 1) values)) step_at
  unfolding with_values read_next
  next_values inside =
      let at = if is_shifted then other_set set else set in
      rw (drop_more values i 0 inside)
      (sym (then_values before set is_shifted (drop (i + 1) values) (meaning at (get_or values i 0))))

  pub value_read : (bytes : List ℕ) (next : CodeSet × Bool) → i < length values → Some (bytes, next) ≡ step_at
      → with_values before set is_shifted (drop i values) ≡ with_values bytes next.0 next.1 (drop (i + 1) values)
  value_read bytes next inside is = next_values inside ∙ rw (← is) refl

  pub no_value_read : i < length values → None ≡ step_at → with_values before set is_shifted (drop i values) ≡ None
  no_value_read inside is = next_values inside ∙ rw (← is) refl

pub nothing_before : (set : CodeSet) (values : List ℕ) → with_values [] set false values ≡ read_values set false values
unfolding with_values
nothing_before set values = option_map_id (read_values set false values)

-- at the end a shift has shifted nothing
pub all_read : (before : List ℕ) (set : CodeSet) (is_shifted : Bool) (values : List ℕ) (i : ℕ) → length values ≤ i
    → with_values before set is_shifted (drop i values) ≡ then_some (not is_shifted) before
unfolding with_values
all_read before set true values i end = rw (drop_all i values end) refl
all_read before set false values i end = rw (drop_all i values end) (ap Some (append-nil before))
