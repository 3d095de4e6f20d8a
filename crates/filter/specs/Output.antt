-- What a run sends of a text, line by line, and its status (docs/SPECIFICATION.md, Lines, Statuses).
-- Why: `outcome`, `script`, `sent`, `status_of`: "depend on nothing but options and input, as specified".
use Rattle.std.specs.Prelude.{ℕ, ◌+◌, ◌-◌, ◌^◌, min, Bool, true, false, if◌then◌else◌, List, [], ◌∷◌, ◌++◌}
use Rattle.std.specs.Prelude.{Option, Some, None}
use Rattle.std.specs.List.{filter_map, flat_map, list_any}
use Rattle.labelcore.specs.Lines.{lines, ended_lines}
use Rattle.labelcore.specs.declared.options.Format.{Format}
use Rattle.labelcore.specs.declared.options.Format.TheVariants.{Pbm, Ascii}
use Rattle.labelcore.specs.declared.options.Options.{Options}
use Rattle.labelcore.specs.OptionValues.{RunValues}
use Rattle.labelcore.specs.LineItem.{Outcome, Request, skipped, refused, drawn, item, outcome_of}
use Rattle.labelcore.specs.Message.{message}
use Rattle.picture.specs.Picture.{Picture, with_quiet_zone, enlargement}
use Rattle.picture.specs.Text.{pbm_text, ascii_text}
use Rattle.filter.specs.Symbol.{Symbol, symbol_of, quiet_zone}
use Rattle.filter.specs.declared.status.Status.{Status}
use Rattle.filter.specs.declared.status.Status.TheVariants.{Clean, Refused}

-- what is drawn of an item
abbrev pub outcome_of_item : Outcome Request → Outcome Symbol
outcome_of_item skipped = skipped
outcome_of_item (refused fault) = refused fault
outcome_of_item (drawn asked) = outcome_of (symbol_of asked.options.label asked.symbology asked.bytes)

-- what is drawn of a line
unfoldable pub outcome : Options → List ℕ → Outcome Symbol
outcome options line = outcome_of_item (item options line)

-- the symbol in its quiet zone, each module a square of pixels
abbrev pub picture_of : RunValues → Symbol → Picture
picture_of run symbol = enlargement (with_quiet_zone symbol.modules (quiet_zone symbol.symbology)) run.scale

-- the text of a picture in a format
abbrev pub text_of : Format → Picture → List ℕ
text_of Pbm p = pbm_text p
text_of Ascii p = ascii_text p

-- the image of what is drawn, or nothing
abbrev pub image_of : RunValues → Outcome Symbol → List ℕ
image_of run (drawn symbol) = text_of run.format (picture_of run symbol)
image_of run other = []

-- the message of a refusal, or nothing
abbrev pub message_of : ℕ → Outcome Symbol → List ℕ
message_of number (refused fault) = message number fault
message_of number other = []

-- what a run does to its sinks: it sends the image or the message of a line with a number, and flushes at the end
pub data Event : Type 0 where
  of_line : ℕ → Outcome Symbol → Event
  flushes : Event

-- the number of the line after `before` lines; it stops at the greatest `u64`
abbrev pub line_number : ℕ → ℕ
line_number before = min (before + 1) (2 ^ 64 - 1)

-- what is sent of lines that come after `before` lines, in order
unfoldable pub events_after : Options → ℕ → List (List ℕ) → List Event
events_after options before [] = []
events_after options before (line ∷ lines) =
    of_line (line_number before) (outcome options line) ∷ events_after options (before + 1) lines

-- the script of the lines of a text that have ended
abbrev pub ended_script : Options → List ℕ → List Event
ended_script options text = events_after options 0 (ended_lines text)

-- the script of a text: what is sent of its lines, and then the flushes
abbrev pub script : Options → List ℕ → List Event
script options text = events_after options 0 (lines text) ++ flushes ∷ []

-- the two sinks
pub data Channel : Type 0 where
  Images : Channel
  Messages : Channel

-- the bytes of an event for a sink: of a line its image or its message
abbrev pub bytes_for : RunValues → Channel → Event → List ℕ
bytes_for run Images (of_line number outcome) = image_of run outcome
bytes_for run Messages (of_line number outcome) = message_of number outcome
bytes_for run channel flushes = []

-- the bytes of a script for a sink
abbrev pub sent : RunValues → Channel → List Event → List ℕ
sent run channel events = flat_map (bytes_for run channel) events

-- the symbol that is drawn, or none
abbrev pub symbol_in : Event → Option Symbol
symbol_in (of_line number (drawn symbol)) = Some symbol
symbol_in other = None

-- the symbols that a script draws, in order
unfoldable pub drawn_symbols : List Event → List Symbol
drawn_symbols events = filter_map symbol_in events

-- whether the line is refused
abbrev pub is_refusal : Event → Bool
is_refusal (of_line number (refused fault)) = true
is_refusal other = false

-- the status of a script: whether some line is refused
unfoldable pub status_of : List Event → Status
status_of events = if list_any is_refusal events then Refused else Clean
