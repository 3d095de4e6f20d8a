-- What a call of the C library asks for, and what it leaves in the caller's memory.
use Rattle.std.specs.Prelude.{◌≡◌, ℕ, ◌-◌, ◌^◌, nat_eq, nat_le, min, Bool, Option, None, Some, Result, Ok, Err, List, [], ◌∷◌, length}
use Rattle.std.specs.Prelude.{if◌then◌else◌, IfOk, ⊤}
use Rattle.std.specs.List.{list_any}
use Rattle.std.specs.Result.{result_map_both}
use Rattle.labelcore.specs.LineItem.{Outcome, Request, skipped, refused, drawn, item}
use Rattle.labelcore.specs.Lines.{LF}
use Rattle.labelcore.specs.Message.{fault_text}
use Rattle.labelcore.specs.OptionValues.{RunValues}
use Rattle.labelcore.specs.declared.options.Options.{Options}
use Rattle.labelcore.specs.declared.symbology.Symbology.{Symbology}
use Rattle.filter.specs.Output.{image_of, outcome_of_item}
use Rattle.filter.specs.Readback.{IsRead}
use Rattle.filter.specs.Symbol.{Symbol}
use Rattle.capi.specs.Numbers.{code_of, options_numbered, place_of, symbology_numbered}
use Rattle.capi.specs.Room.{put_text}
use Rattle.capi.specs.declared.numbers.Answer.{Answer}
use Rattle.capi.specs.declared.asked.Reason.{Reason}
use Rattle.capi.specs.declared.numbers.CallOptions.{CallOptions}

-- the options that the numbers of a call mean, or the code and the number of the first that is out of its range
unfoldable pub options_asked : CallOptions → Result Options Reason
options_asked options =
    result_map_both (λ found. found) (λ number. record { code = 2; at = number }) (options_numbered options)

-- what a call asks for: the options of a run, and what is drawn with them
pub record Asked : Type 0 where
  pub run : RunValues
  pub item : Outcome Request

-- what is asked for of data, or why nothing can be drawn: options, then symbology, then data
abbrev pub asked_of : Result Options Reason → Option Symbology → List ℕ → Result Asked Reason
asked_of (Err reason) symbology bytes = Err reason
asked_of (Ok options) None bytes = Err (record { code = 3; at = 0 })
asked_of (Ok options) (Some symbology) [] = Err (record { code = 4; at = 0 })
asked_of (Ok options) (Some symbology) (b ∷ bytes) = Ok (record {
  run = options.run;
  item = drawn (record { symbology = symbology; options = options; bytes = b ∷ bytes });
})

-- what the numbers of a call ask for
unfoldable pub asked : CallOptions → ℕ → List ℕ → Result Asked Reason
asked options symbology bytes = asked_of (options_asked options) (symbology_numbered symbology) bytes

-- whether a text has an LF, and so is more than one line
abbrev pub has_LF : List ℕ → Bool
has_LF text = list_any (λ byte. nat_eq byte LF) text

-- what is asked for by a line, or why it cannot be read: options, then line feeds
abbrev pub line_asked_of : Result Options Reason → List ℕ → Result Asked Reason
line_asked_of (Err reason) text = Err reason
line_asked_of (Ok options) text =
    if has_LF text then Err (record { code = 15; at = 0 })
    else Ok (record { run = options.run; item = item options text })

-- what the numbers of a call and a line ask for
unfoldable pub line_asked : CallOptions → List ℕ → Result Asked Reason
line_asked options text = line_asked_of (options_asked options) text

-- the caller's room for an image or a bitmap, and that for a message, before and after
pub record Rooms : Type 0 where
  pub out : List ℕ
  pub out_after : List ℕ
  pub message : List ℕ
  pub message_after : List ℕ

-- nothing is drawn, for the reason with this code and this text
pub record Declines (rooms : Rooms) (answer : Answer) (code place : ℕ) (text : List ℕ) : Type 0 where
  pub code_is : answer.code ≡ code
  pub unused : answer.reserved ≡ 0
  pub at : answer.at ≡ place
  pub nothing : answer.length ≡ 0
  pub size : answer.message_length ≡ min (length text) (2 ^ 64 - 1)
  pub out : rooms.out_after ≡ rooms.out
  pub message : rooms.message_after ≡ put_text rooms.message 0 text

-- a text is put into the room, as much as there is room for, and nothing after it is written
pub record PutsWhole (rooms : Rooms) (answer : Answer) (text : List ℕ) : Type 0 where
  pub code_is : answer.code ≡ (if nat_le (length text) (length rooms.out) then 0 else 1)
  pub unused : answer.reserved ≡ 0
  pub size : answer.length ≡ min (length text) (2 ^ 64 - 1)
  pub no_place : answer.at ≡ 0
  pub no_message : answer.message_length ≡ 0
  pub out : rooms.out_after ≡ put_text rooms.out 0 text
  pub message : rooms.message_after ≡ rooms.message

-- the image of a symbol that is drawn, or why there is none; 14 is a line that is skipped
abbrev pub AnswersImageOutcome : Rooms → Answer → RunValues → Outcome Symbol → Type 0
AnswersImageOutcome rooms answer run skipped = Declines rooms answer 14 0 []
AnswersImageOutcome rooms answer run (refused fault) = Declines rooms answer (code_of fault) (place_of fault) (fault_text fault)
AnswersImageOutcome rooms answer run (drawn symbol) = PutsWhole rooms answer (image_of run (drawn symbol))

-- the image of what is asked for, or why there is none
abbrev pub AnswersImage : Rooms → Answer → Result Asked Reason → Type 0
AnswersImage rooms answer (Err reason) = Declines rooms answer reason.code reason.at []
AnswersImage rooms answer (Ok a) = AnswersImageOutcome rooms answer a.run (outcome_of_item a.item)

-- the image of a symbol reads as its full data
abbrev pub ReadsImageOutcome : RunValues → Outcome Symbol → Type 0
ReadsImageOutcome run (drawn symbol) = IsRead run.format run.scale (image_of run (drawn symbol)) symbol
ReadsImageOutcome run other = ⊤

-- the image of what is asked for reads as the full data
abbrev pub ReadsImage : Result Asked Reason → Type 0
ReadsImage found = IfOk found (λ a. ReadsImageOutcome a.run (outcome_of_item a.item))
