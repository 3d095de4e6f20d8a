-- What the getters of the matches return, from the rows.
use Rattle.std.proofs.Common.{◌≡◌, ◌∙◌, ◌≤◌, ◌⊎◌, ◌↔◌, ap, codes, ℕ, Bool, true, false, List, Option, Some, None}
use Rattle.std.proofs.Common.{arith}
use Rattle.std.specs.Prelude.{IfSome, IsSome, option_map, unwrap_or}
use Rattle.clap.specs.Words.{Row, Text, one_text, rows_of}
use Rattle.clap.specs.declared.parser.matches.Found.{Found}
use Rattle.clap.proofs.WalkLemmas.{first_value-rows, one_text-rows}
use Rattle.labelcore.specs.Ranges.{IsMask}
use Rattle.labelcore.specs.declared.options.Options.{Options}
use Rattle.command.specs.CommandLine.{is_on, number_named, number_written}
use Rattle.command.specs.Private.Checked.{HoldsNumber}

-- what the getters read is in the rows
pub ruleset of_rows = (first_value-rows, one_text-rows)

pub number_read : (f : Found) (id : Text) (o : Option ℕ) → o ≡ option_map number_written (one_text f id)
    → o ≡ number_named id (rows_of f)
number_read f id o is = is ∙ ap (option_map number_written) (one_text-rows f id)

-- a number is the one that the rows name, or the default, and in its range
pub record NumberIs (rows : List Row) (id : Text) (default low high n : ℕ) : Type 0 where
  pub is : n ≡ unwrap_or (number_named id rows) default
  pub at_least : low ≤ n
  pub at_most : n ≤ high

-- what a getter reads of a number, with a default in its range
-- d and n are what two calls in options_named, the only caller, return, with the equation that each ensures; the
-- other facts are that the number that was given is in the range, and that the default is
pub NumberIs-read : (f : Found) (id : Text) (o : Option ℕ) → o ≡ option_map number_written (one_text f id)
    → (low high default d n : ℕ) → HoldsNumber low high id f → low ≤ default → default ≤ high → d ≡ default
    → n ≡ unwrap_or o d → NumberIs (rows_of f) id default low high n
NumberIs-read f id o is low high default d n holds least most same given =
    let rows = one_text-rows f id in grind (arith, is, holds, least, most, same, given, rows)

pub mask_in_range : (f : Found) (id : Text) (o : Option ℕ) → o ≡ option_map number_written (one_text f id)
    → HoldsNumber 0 7 id f → IsMask o
mask_in_range f id o is holds = grind (arith, is, holds)

pub switch_read : (f : Found) (id : Text) (b : Bool) → (one_text f id ≡ None → b ≡ false)
    → (one_text f id ≡ Some (codes "true") → b ≡ true)
    → (one_text f id ≡ Some (codes "false") → b ≡ false)
    → IfSome (one_text f id) (λ t. (t ≡ codes "true") ⊎ (t ≡ codes "false"))
    → b ≡ is_on id (rows_of f)
switch_read f id b none on off holds = let rows = one_text-rows f id in grind (arith, none, on, off, holds, rows)

-- what is made of values in their ranges
pub made : {P : Type 0} (r : Option Options) (s : Options) → (IsSome r ↔ P) → IfSome r (λ o. o ≡ s) → P
    → r ≡ Some s
made r s valid value p = grind (arith, valid, value, p)
