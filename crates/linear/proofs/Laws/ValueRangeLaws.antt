-- The values of data are those of characters (ISO/IEC 15417, symbol characters).
use Rattle.std.proofs.Common.{ℕ, ◌<◌, List, [], ◌∷◌, ◌++◌, arith, lt-ltb, le-ltb, inl, inr, lit<}
use Rattle.std.specs.List.{AllByRecursion}
use Rattle.std.proofs.lemmas.Bool.{cases_lt}
use Rattle.linear.specs.declared.switching.CodeSet.{CodeSet}
use Rattle.linear.specs.declared.switching.CodeSet.TheVariants.{A, B, C}
use Rattle.linear.specs.CodeSets.{character_value, pair_value, change_value, pair_values}
use Rattle.linear.proofs.Laws.CodeSetLaws.{Written, nothing, plain, shifted, changed, pair}

-- every value written is one of the table
abbrev pub AreCharacters : List ℕ → Type 0
AreCharacters values = AllByRecursion (λ value. value < 106) values

pub AreCharacters-append : (xs ys : List ℕ) → AreCharacters xs → AreCharacters ys → AreCharacters (xs ++ ys)
AreCharacters-append [] ys a b = b
AreCharacters-append (x ∷ xs) ys a b = (a.0, AreCharacters-append xs ys a.1 b)

character_value_below : (byte : ℕ) → byte < 128 → character_value byte < 106
character_value_below byte h =
    elim (cases_lt byte 32) [
      | inl low ↦ rw (lt-ltb byte 32 low) (omega arith)
      | inr high ↦ rw (le-ltb byte 32 high) (omega arith)
    ]

change_value_below : (set : CodeSet) → change_value set < 106
change_value_below A = lit< tt
change_value_below B = lit< tt
change_value_below C = lit< tt

AreCharacters-pair_values : (set : CodeSet) (first second : ℕ) → pair_value first second < 106
    → AreCharacters (pair_values set first second)
AreCharacters-pair_values A first second below = (lit< tt, (below, tt))
AreCharacters-pair_values B first second below = (lit< tt, (below, tt))
AreCharacters-pair_values C first second below = (below, tt)

pub AreCharacters-written : {set : CodeSet} {bytes values : List ℕ} → Written set bytes values → AreCharacters values
AreCharacters-written nothing = tt
AreCharacters-written (plain {byte = byte} below odd has w) =
    (character_value_below byte below, AreCharacters-written w)
AreCharacters-written (shifted {byte = byte} below odd has is w) =
    (lit< tt, (character_value_below byte below, AreCharacters-written w))
AreCharacters-written (changed {byte = byte} below odd has is next picked has_next w) =
    (change_value_below next, (character_value_below byte below, AreCharacters-written w))
AreCharacters-written (pair {set = set} {first = first} {second = second} even d e w) =
    AreCharacters-append (pair_values set first second) _ (AreCharacters-pair_values set first second (omega arith))
    (AreCharacters-written w)
