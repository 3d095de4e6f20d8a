-- The steps of the switching rule write the values of `data_values`.
use Rattle.std.proofs.Common.{◌≡◌, ℕ, ◌<◌, Bool, true, false, cond, List, [], ◌∷◌, ◌++◌, drop, refl, ap, subst, ◌∙◌}
use Rattle.std.proofs.Common.{arith}
use Rattle.std.proofs.Common.{le-leb}
use Rattle.std.specs.Prelude.{slice_index}
use Rattle.std.proofs.lemmas.Bool.Decides.{nat_tests}
use Rattle.std.proofs.lemmas.List.Elements.{recursion_from_All}
use Rattle.linear.specs.declared.switching.CodeSet.{CodeSet}
use Rattle.linear.specs.declared.switching.CodeSet.TheVariants.{A, B, C}
use Rattle.linear.specs.CodeSets.{set_has, character_value, pair_value, shift_value, is_next, picked_set}
use Rattle.linear.specs.CodeSets.{is_pair_next}
use Rattle.linear.specs.CodeSets.{change_value, leading_digits, pair_values}
use Rattle.linear.specs.Switching.{Step, to_set, character_step, step, Writes, done, stepped, ValuesAreWrittenBySteps}
use Rattle.linear.proofs.Laws.CodeSetLaws.{Written, nothing, plain, shifted, changed, pair, two_digits_next}
use Rattle.linear.proofs.Laws.CodeSetLaws.{data_values-written}

-- a step that is `s`, and a writing of what it leaves
by_step : {set : CodeSet} {byte : ℕ} {rest : List ℕ} (values : List ℕ) (s : Step) → step set byte rest ≡ s
    → Writes s.set s.rest values → Writes set (byte ∷ rest) (s.values ++ values)
by_step {set = set} {byte = byte} {rest = rest} values s e =
    subst (λ (x : Step). Writes x.set x.rest values → Writes set (byte ∷ rest) (x.values ++ values)) e (λ w. stepped w)

-- the step of one character, by whether the set has it and whether the next special byte is of the set
abbrev step_by : CodeSet → ℕ → List ℕ → Bool → Bool → Step
step_by set byte rest has next =
    cond has (record { values = character_value byte ∷ []; set = set; rest = rest })
    (cond next (record { values = shift_value ∷ character_value byte ∷ []; set = set; rest = rest })
    (to_set (picked_set (byte ∷ rest)) (byte ∷ rest)))

-- where no pair is next, a step writes one character or changes the set
step_is : (set : CodeSet) (byte : ℕ) (rest : List ℕ) {has next : Bool} → is_pair_next set (byte ∷ rest) ≡ false
    → set_has set byte ≡ has → is_next set rest ≡ next → step set byte rest ≡ step_by set byte rest has next
step_is set byte rest {has = has} odd e f =
    one_character set odd ∙ ap (λ b. step_by set byte rest b (is_next set rest)) e
    ∙ ap (step_by set byte rest has) f where
      one_character : (set : CodeSet) → is_pair_next set (byte ∷ rest) ≡ false
          → step set byte rest ≡ character_step set byte rest
      one_character A odd = ap (λ b. cond b (to_set C (byte ∷ rest)) (character_step A byte rest)) odd
      one_character B odd = ap (λ b. cond b (to_set C (byte ∷ rest)) (character_step B byte rest)) odd
      one_character C odd =
          ap (λ b. cond b (record { values = pair_value byte (slice_index rest 0) ∷ []; set = C; rest = drop 1 rest })
          (character_step C byte rest)) odd

-- a set that has the byte writes it by itself, where no pair is next in another one
writes_plain : (set next : CodeSet) (byte : ℕ) (rest values : List ℕ) → is_pair_next set (byte ∷ rest) ≡ false
    → set_has next byte ≡ true → Writes next rest values → Writes next (byte ∷ rest) (character_value byte ∷ values)
writes_plain set next byte rest values odd has =
    by_step values (record { values = character_value byte ∷ []; set = next; rest = rest })
    (step_is next byte rest (none_next set next odd has) has refl) where
      none_next : (set next : CodeSet) → is_pair_next set (byte ∷ rest) ≡ false → set_has next byte ≡ true
          → is_pair_next next (byte ∷ rest) ≡ false
      none_next A A odd has = odd
      none_next A B odd has = odd
      none_next B A odd has = odd
      none_next B B odd has = odd
      none_next C A odd has = grind (arith, nat_tests)
      none_next C B odd has = grind (arith, nat_tests)
      none_next set C odd has = cc

-- two digits are a pair in C
pair_in_c : (first second : ℕ) (rest values : List ℕ) → is_pair_next C (first ∷ second ∷ rest) ≡ true
    → Writes C rest values → Writes C (first ∷ second ∷ rest) (pair_value first second ∷ values)
pair_in_c first second rest values two =
    let one : Step = record { values = pair_value first second ∷ []; set = C; rest = rest } in
    by_step values one (ap (λ b. cond b one (character_step C first (second ∷ rest))) two)

-- a change to C comes before them in another set
pair_after_change : (set : CodeSet) (first second : ℕ) (rest values : List ℕ)
    → step set first (second ∷ rest) ≡ to_set C (first ∷ second ∷ rest)
    → is_pair_next set (first ∷ second ∷ rest) ≡ true → Writes C rest values
    → Writes set (first ∷ second ∷ rest) (change_value C ∷ pair_value first second ∷ values)
pair_after_change set first second rest values e even w =
    let bytes : List ℕ = first ∷ second ∷ rest in
    by_step (pair_value first second ∷ values) (to_set C bytes) e
    (pair_in_c first second rest values (le-leb 2 (leading_digits bytes) (two_digits_next set bytes even)) w)

writes_pair : (set : CodeSet) (first second : ℕ) (rest values : List ℕ)
    → is_pair_next set (first ∷ second ∷ rest) ≡ true → Writes C rest values
    → Writes set (first ∷ second ∷ rest) (pair_values set first second ++ values)
writes_pair A first second rest values even =
    let bytes : List ℕ = first ∷ second ∷ rest in
    pair_after_change A first second rest values
    (ap (λ b. cond b (to_set C bytes) (character_step A first (second ∷ rest))) even) even
writes_pair B first second rest values even =
    let bytes : List ℕ = first ∷ second ∷ rest in
    pair_after_change B first second rest values
    (ap (λ b. cond b (to_set C bytes) (character_step B first (second ∷ rest))) even) even
writes_pair C first second rest values even = pair_in_c first second rest values even

writes : {set : CodeSet} {bytes values : List ℕ} → Written set bytes values → Writes set bytes values
writes nothing = done
writes (plain {set = set} {byte = byte} {rest = rest} {values = values} below odd has w) =
    writes_plain set set byte rest values odd has (writes w)
writes (shifted {set = set} {byte = byte} {rest = rest} {values = values} below odd lacks is w) =
    by_step values (step_by set byte rest false true) (step_is set byte rest odd lacks is) (writes w)
writes (changed {set = set} {byte = byte} {rest = rest} {values = values} below odd lacks is next picked has w) =
    by_step (character_value byte ∷ values) (to_set next (byte ∷ rest))
    (step_is set byte rest odd lacks is ∙ ap (λ s. to_set s (byte ∷ rest)) picked)
    (writes_plain set next byte rest values odd has (writes w))
writes (pair {set = set} {first = first} {second = second} {rest = rest} {values = values} even d e w) =
    writes_pair set first second rest values even (writes w)

pub values_are_written_by_steps : ValuesAreWrittenBySteps
values_are_written_by_steps set bytes all =
    writes (data_values-written set bytes (recursion_from_All (λ byte. byte < 128) bytes all))
