-- The options and the data of what is drawn: options in their ranges, and some data, which the line has.
use Rattle.std.proofs.Common.{◌≡◌, ℕ, ◌+◌, ◌<◌, ◌≤◌, Bool, true, false, List, [], ◌∷◌, length, drop}
use Rattle.std.proofs.Common.{Result, Ok, arith, length-append, length-drop}
use Rattle.std.specs.List.{AllByRecursion, position_or_len}
use Rattle.std.specs.Prelude.{⊤, IfOk, ◌++◌}
use Rattle.std.specs.Result.{result_map_both}
use Rattle.std.proofs.lemmas.List.Elements.{All-drop, All-from_recursion, recursion_from_All}
use Rattle.std.proofs.lemmas.Bool.Decides.{nat_tests}
use Rattle.labelcore.specs.declared.symbology.Symbology.{Symbology}
use Rattle.labelcore.specs.declared.fault.Fault.TheVariants.{BadEscape}
use Rattle.labelcore.specs.OptionValues.{LabelValues, RunValues}
use Rattle.labelcore.specs.Ranges.{IsInRange}
use Rattle.labelcore.specs.declared.options.Options.{Options}
use Rattle.labelcore.specs.Settings.{with_setting, with_settings}
use Rattle.labelcore.specs.LineItem.{Outcome, drawn, Request, HasData, head_read, data_read, request, item}
use Rattle.labelcore.specs.HeldLine.{HeldLine}
use Rattle.labelcore.specs.Escapes.{unescaped}
use Rattle.labelcore.specs.Units.{AreUnits, none, more, IsUnit}
use Rattle.labelcore.specs.Names.{is}
use Rattle.labelcore.specs.Private.Parsing.{item_of_held}
use Rattle.labelcore.proofs.Laws.HeldLaws.{line_limit-is}
use Rattle.labelcore.proofs.Laws.UnitLaws.{unit_some, AreUnits-from_unescaped}

-- the options of a run and of one of its labels, in their ranges
abbrev pub AreInRange : RunValues → LabelValues → Type 0
AreInRange run label = IsInRange run.scale label.height label.min_version label.mask

-- settings leave options in their ranges
with_settings-range : (run : RunValues) (symbology : Symbology) (number : ℕ) (settings : List (List ℕ))
    (options : LabelValues) → AreInRange run options
    → IfOk (with_settings symbology number settings options) (AreInRange run)
unfolding with_setting
with_settings-range run symbology number [] options range = range
with_settings-range run symbology number (setting ∷ later) options range =
    let more = with_settings-range run symbology (number + 1) later in grind (arith, nat_tests, range, more)

-- bytes, of a line and of its data
abbrev pub AreBytes : List ℕ → Type 0
AreBytes bytes = AllByRecursion (λ b. b < 256) bytes

-- data that is read of a text
record IsReadFrom (text bytes : List ℕ) : Type 0 where
  some : 0 < length text → 0 < length bytes
  fits : length bytes ≤ length text
  bytes_are : AreBytes text → AreBytes bytes

unit_names : (unit text : List ℕ) (byte : ℕ) → IsUnit unit byte → AreBytes (unit ++ text) → (byte < 256) × AreBytes text
unit_names unit text byte u w = grind (arith, u, w)

-- units name no more bytes than they have, and some if there is one
read_from_units : (text bytes : List ℕ) → AreUnits text bytes → IsReadFrom text bytes
read_from_units text bytes none = grind arith
read_from_units text bytes (more unit rest bs byte u us) =
    let later = read_from_units rest bs us in
    let some = unit_some unit byte u in
    let first = unit_names unit rest byte u in grind (arith, later, some, first, length-append unit rest)

data_read-is : (escapes : Bool) (text : List ℕ) → IfOk (data_read escapes text) (IsReadFrom text)
data_read-is false text = grind arith
data_read-is true text = by_units (unescaped text) (AreUnits-from_unescaped text) where
  by_units : (r : Result (List ℕ) ℕ) → ((bytes : List ℕ) → r ≡ Ok bytes → AreUnits text bytes)
      → IfOk (result_map_both (λ bytes. bytes) (λ place. BadEscape place) r) (IsReadFrom text)
  by_units r units = grind (arith, units, read_from_units text)

-- a symbol that a line asks for has options in their ranges where the run has, and some data of the line
record IsFair (options : Options) (line : List ℕ) (asked : Request) : Type 0 where
  range : AreInRange options.run options.label → AreInRange options.run asked.options.label
  some : 0 < length asked.bytes
  fits : length asked.bytes ≤ length line
  bytes_are : AreBytes line → AreBytes asked.bytes

request-fair : (options : Options) (line : List ℕ) → IfOk (request options line) (IsFair options line)
unfolding request head_read
request-fair options line =
    let at = position_or_len (is " ") line + 1 in
    let read = data_read-is options.run.escapes in
    let bytes = λ (w : AreBytes line). recursion_from_All (λ b. b < 256) (drop at line)
    (All-drop (λ b. b < 256) at line (All-from_recursion (λ b. b < 256) line w)) in
    grind (arith, with_settings-range options.run, read, bytes, length-drop at line)

-- what is drawn has data of the line
pub item_of_held-has_data : (options : Options) (line : HeldLine) → length line.bytes ≤ 1100
    → HasData (item_of_held options line)
item_of_held-has_data options line short = grind (arith, short, request-fair options line.bytes)

pub item-has_data : (options : Options) (line : List ℕ) → HasData (item options line)
item-has_data options line =
    let limit = line_limit-is in grind (arith, nat_tests, limit, request-fair options line)

-- a symbol that is drawn has options in their ranges, and bytes; of other lines nothing is said
abbrev pub HasRanges : RunValues → Outcome Request → Type 0
HasRanges run (drawn asked) = AreInRange run asked.options.label × AreBytes asked.bytes
HasRanges run other = ⊤

-- what is drawn has options in their ranges, and bytes, where the run and the line have
pub item-ranges : (options : Options) (line : List ℕ) → AreInRange options.run options.label → AreBytes line
    → HasRanges options.run (item options line)
item-ranges options line range w = grind (arith, range, w, request-fair options line)
