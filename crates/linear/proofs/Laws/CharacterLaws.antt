-- Laws of the characters (ISO/IEC 15417, symbol characters): each is a test that is computed over the whole table.
use Rattle.std.proofs.Common.{◌≡◌, ℕ, ◌≤◌, ◌%◌, Bool, true, Option, Some, List, [], length, get_or, eqb, refl, sym}
use Rattle.std.proofs.Common.{ap, ◌∙◌, arith}
use Rattle.std.specs.Prelude.{position, count_by}
use Rattle.std.proofs.lemmas.Bool.Decides.{Decides-eqb}
use Rattle.linear.specs.Modules.{same_modules}
use Rattle.linear.specs.Code128.{characters, character_modules}
use Rattle.linear.specs.CodingLaws.{CharactersDiffer, CharactersHaveElevenModules, WidthsAreEven}
use Rattle.labelcore.proofs.Laws.ComputedLaws.{passes}
use Rattle.linear.proofs.Laws.PatternLaws.{is_value, value_from_test}
use Rattle.linear.proofs.Laws.TableLaws.{all_characters, characters-all_characters, stop_character}

-- a character has eleven modules
pub length-character_modules : CharactersHaveElevenModules
unfolding all_characters
length-character_modules value h = ap (λ table. length (get_or table value [])) characters-all_characters
    ∙ (Decides-eqb _ 11).0 (passes (λ v. eqb (length (get_or all_characters v [])) 11) 106 value refl h)

-- the stop character has thirteen
pub length-stop : length (character_modules 106) ≡ 13
length-stop = ap (λ row. length row) (sym stop_character)

pub same_modules-stop : same_modules (character_modules 106) (character_modules 106) ≡ true
same_modules-stop = ap (λ row. same_modules row row) (sym stop_character)

-- the value whose character is a group
abbrev pub group_value : List Bool → Option ℕ
group_value group = position (same_modules group) characters

-- a character's value is found
pub group_value-character_modules : (value : ℕ) → value ≤ 106 → group_value (character_modules value) ≡ Some value
unfolding all_characters
group_value-character_modules value h =
    ap (λ table. position (same_modules (get_or table value [])) table) characters-all_characters
    ∙ value_from_test _ _ (passes (λ v. is_value
    (position (same_modules (get_or all_characters v [])) all_characters) v) 107 value refl (omega arith))

pub character_modules-differs : CharactersDiffer
character_modules-differs value other h k e =
    let same : Some value ≡ Some other = sym (group_value-character_modules value h) ∙ ap group_value e
    ∙ group_value-character_modules other k in
    cc

pub count_by-character_modules : WidthsAreEven
unfolding all_characters
count_by-character_modules value h = ap (λ table. count_by (λ dark. dark)
    (get_or table value []) % 2) characters-all_characters
    ∙ (Decides-eqb _ 0).0 (passes (λ v. eqb (count_by (λ dark. dark) (get_or all_characters v []) % 2) 0) 106 value
    refl h)
