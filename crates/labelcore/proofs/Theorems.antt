-- What the definitions of a line say together (docs/SPECIFICATION.md, Lines, Settings). No function rests on it.
use Rattle.std.proofs.Common.{◌≡◌, ◌≢◌, ◌∙◌, ℕ, List, [], ◌++◌, Ok, Err, ap, sym}
use Rattle.std.specs.Prelude.{◌↔◌}
use Rattle.std.proofs.lemmas.List.{append-nil}
use Rattle.std.proofs.lemmas.List.Elements.{All-nil}
use Rattle.labelcore.specs.declared.fault.Fault.{Fault}
use Rattle.labelcore.specs.declared.symbology.Symbology.{Symbology}
use Rattle.labelcore.specs.Lines.{LF, lines, ended_lines, open_line, ended_text, IsCut, unless_empty, with_ends}
use Rattle.labelcore.specs.Escapes.{unescaped}
use Rattle.labelcore.specs.LineItem.{item, HasData}
use Rattle.labelcore.specs.declared.options.Options.{Options}
use Rattle.labelcore.specs.OptionValues.{LabelValues}
use Rattle.labelcore.specs.Settings.{with_settings, IsFirstBad}
use Rattle.labelcore.specs.Units.{AreUnits, IsBadEscape}
use Rattle.labelcore.proofs.Laws.FirstBadLaws.{first_bad, first_bad_decides}
use Rattle.labelcore.proofs.Laws.KeptLaws.{item-has_data}
use Rattle.labelcore.proofs.Laws.UnitLaws.{unescaped-AreUnits, AreUnits-from_unescaped, unescaped-IsBadEscape}
use Rattle.labelcore.proofs.Laws.UnitLaws.{IsBadEscape-from_unescaped}
use Rattle.labelcore.proofs.Laws.LinesLaws.{IsCut-ended_lines, ended_lines-cut, open_line-cut}

-- a line that is drawn has data
pub items_of_lines : (options : Options) (line : List ℕ) → HasData (item options line)
items_of_lines = item-has_data

-- escaped data is a list of units in at most one way, and it names the bytes of these units
pub units_of_data : (text bytes : List ℕ) → (unescaped text ≡ Ok bytes) ↔ AreUnits text bytes
units_of_data text bytes = (AreUnits-from_unescaped text bytes, λ units. unescaped-AreUnits text bytes units 1)

-- the place that is reported is that of the first backslash that begins no unit
pub bad_escape_of_data : (text : List ℕ) (place : ℕ) → (unescaped text ≡ Err place) ↔ IsBadEscape text place
bad_escape_of_data text place = (IsBadEscape-from_unescaped text place, unescaped-IsBadEscape text place)

-- the first bad setting from the left is the one that is reported
pub first_bad_settings : (symbology : Symbology) (settings : List (List ℕ)) (options : LabelValues) (fault : Fault)
    → (with_settings symbology 1 settings options ≡ Err fault) ↔ IsFirstBad symbology settings options fault
first_bad_settings symbology settings options fault =
    (first_bad symbology settings options fault, first_bad_decides symbology settings options fault)

-- a text is cut into lines in one way alone: into those that contracts name
pub lines_of_text : (text : List ℕ) → IsCut text (ended_lines text) (open_line text)
lines_of_text = IsCut-ended_lines

pub only_lines_of_text : (text rest : List ℕ) (ended : List (List ℕ)) → IsCut text ended rest
    → (ended_lines text ≡ ended) × (open_line text ≡ rest)
only_lines_of_text text rest ended cut = (ended_lines-cut cut, open_line-cut cut)

-- the ended text is cut into the ended lines, and its rest is empty
cut_ended_text : (text : List ℕ) → IsCut (ended_text text) (ended_lines text) []
unfolding ended_text
cut_ended_text text = record {
  whole = sym (append-nil (with_ends (ended_lines text)));
  each = (IsCut-ended_lines text).each;
  rest_open = All-nil (λ b. b ≢ LF);
}

pub lines_of_ended_text : (text : List ℕ) → lines (ended_text text) ≡ ended_lines text
unfolding lines
lines_of_ended_text text =
    let cut = cut_ended_text text in
    ap (λ (rest : List ℕ). ended_lines (ended_text text) ++ unless_empty rest) (open_line-cut cut)
    ∙ (append-nil (ended_lines (ended_text text)) ∙ ended_lines-cut cut)
