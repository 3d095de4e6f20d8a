-- A row of characters is read as their values (ISO/IEC 15417, symbol structure).
use Rattle.std.proofs.Common.{ℕ, [], ◌∷◌, ◌≡◌, eq-eqb, ◌+◌, ◌-◌, ◌*◌, ◌/◌, Bool, List}
use Rattle.std.proofs.Common.{◌++◌, length, refl, arith, length-append}
use Rattle.std.specs.Prelude.{flat_map}
use Rattle.std.proofs.lemmas.List.{drop_at}
use Rattle.linear.specs.Code128.{character_modules}
use Rattle.linear.specs.Code128Reading.{symbol_data, read_code128}
use Rattle.linear.proofs.Laws.GroupLaws.{AreGroups, no_groups, group_more}
use Rattle.linear.proofs.Laws.CharacterLaws.{group_value, length-character_modules, length-stop, same_modules-stop}
use Rattle.linear.proofs.Laws.CharacterLaws.{group_value-character_modules}
use Rattle.linear.proofs.Laws.ValueRangeLaws.{AreCharacters}

-- characters in a row
character_groups : (values : List ℕ) → AreCharacters values
    → AreGroups group_value 11 (length values) (flat_map character_modules values) values
character_groups [] a = no_groups group_value 11
character_groups (value ∷ values) a =
    group_more group_value 11 (character_modules value) _ value _ (length-character_modules value a.0)
    (group_value-character_modules value (omega (arith, a.0))) (character_groups values a.1)

pub length-row : (values : List ℕ) → AreCharacters values
    → length (flat_map character_modules values ++ character_modules 106) ≡ 11 * length values + 13
length-row values a = omega (
  arith,
  length-append (flat_map character_modules values) (character_modules 106),
  (character_groups values a).long,
  length-stop,
)

-- a row of characters and the stop character is read as the characters' data
pub read_code128-characters : (values : List ℕ) → AreCharacters values
    → read_code128 (flat_map character_modules values ++ character_modules 106) ≡ symbol_data values
read_code128-characters values a =
    let row : List Bool = flat_map character_modules values ++ character_modules 106 in
    let groups = character_groups values a in
    let long : length row ≡ 11 * length values + 13 = length-row values a in
    let count : (length row - 13) / 11 ≡ length values = omega arith in
    rw (
      count,
      eq-eqb (length row) (11 * length values + 13) long,
      drop_at (flat_map character_modules values) (character_modules 106) (11 * length values) groups.long,
      same_modules-stop,
      groups.read (character_modules 106),
    ) refl
