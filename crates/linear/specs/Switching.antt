-- The switching rule of Code 128, step by step (in the manner of ISO/IEC 15417's annex on the use of code sets).
-- Why: `ValuesAreWrittenBySteps`, `Writes`, `step`: SPECIFICATION, Code 128, 5; the theorem `coding_laws`.
use Rattle.std.specs.Prelude.{ℕ, ◌<◌, if◌then◌else◌, List, [], ◌∷◌, ◌++◌, drop, slice_index, All}
use Rattle.linear.specs.declared.switching.CodeSet.{CodeSet}
use Rattle.linear.specs.declared.switching.CodeSet.TheVariants.{C}
use Rattle.linear.specs.CodeSets.{set_has, character_value, pair_value, change_value, shift_value, is_next}
use Rattle.linear.specs.CodeSets.{picked_set, is_pair_next, data_values}

-- what one step writes, the set after it, and what is still to be written
pub record Step : Type 0 where
  pub values : List ℕ
  pub set : CodeSet
  pub rest : List ℕ

-- a change of set, which writes no data
abbrev pub to_set : CodeSet → List ℕ → Step
to_set set bytes = record { values = change_value set ∷ []; set = set; rest = bytes }

-- one character: in the set itself where it has the byte, else by a shift where the next special byte is of this set,
-- and else after a change to the picked set
abbrev pub character_step : CodeSet → ℕ → List ℕ → Step
character_step set byte rest =
    if set_has set byte then record { values = character_value byte ∷ []; set = set; rest = rest }
    else if is_next set rest then record { values = shift_value ∷ character_value byte ∷ []; set = set; rest = rest }
    else to_set (picked_set (byte ∷ rest)) (byte ∷ rest)

-- one step for a byte and the rest after it: in C two digits are a pair, and an even run of digits that is long enough
-- changes to C. So the first digit of an odd run is a character before the change.
abbrev pub step : CodeSet → ℕ → List ℕ → Step
step C byte rest =
    if is_pair_next C (byte ∷ rest)
    then record { values = pair_value byte (slice_index rest 0) ∷ []; set = C; rest = drop 1 rest }
    else character_step C byte rest
step set byte rest = if is_pair_next set (byte ∷ rest) then to_set C (byte ∷ rest) else character_step set byte rest

-- the steps from a set and data on, until nothing is left, write these values
pub data Writes : CodeSet → List ℕ → List ℕ → Type 0 where
  done : {set : CodeSet} → Writes set [] []
  stepped : {set : CodeSet} {byte : ℕ} {rest values : List ℕ}
      → Writes (step set byte rest).set (step set byte rest).rest values
      → Writes set (byte ∷ rest) ((step set byte rest).values ++ values)

-- the switching rule's steps write the values of each list of ASCII bytes
abbrev pub ValuesAreWrittenBySteps : Type 0
ValuesAreWrittenBySteps =
    (set : CodeSet) (bytes : List ℕ) → All (λ byte. byte < 128) bytes → Writes set bytes (data_values set bytes)
