-- The state of a filter, and what a call does to its two sinks (docs/SPECIFICATION.md, The filter as a library).
-- Why: `FilterState`, `IsAfter`: what a `Filter` keeps and was fed; `Took`, `Stops`, `Sends`: what calls do to sinks.
use Rattle.std.specs.Prelude.{◌≡◌, ℕ, ◌-◌, ◌^◌, ◌<◌, min, All, Bool, true, false, List, ◌∷◌, ◌++◌, length, Result, Ok}
use Rattle.std.specs.Prelude.{Err, ◌≢◌, IfOk, MatchResult, OnOk, ⊤}
use Rattle.device.specs.Device.{Begins, Rises, Unflushed}
use Rattle.labelcore.specs.Lines.{ended_lines, open_line}
use Rattle.device.specs.Writing.{WritesText}
use Rattle.device.specs.declared.sink.Sink.{Ghosts}
use Rattle.labelcore.specs.declared.fault.Fault.{Fault}
use Rattle.labelcore.specs.HeldLine.{HeldLine, held_line}
use Rattle.labelcore.specs.LineItem.{Outcome, refused}
use Rattle.labelcore.specs.declared.options.Options.{Options}
use Rattle.labelcore.specs.OptionValues.{RunValues}
use Rattle.labelcore.specs.Ranges.{IsInRange}
use Rattle.filter.specs.Output.{Event, Channel, Images, Messages, bytes_for, ended_script, image_of, sent, status_of}
use Rattle.filter.specs.Symbol.{Symbol}
use Rattle.filter.specs.declared.status.RunFault.{RunFault}
use Rattle.filter.specs.declared.status.RunFault.TheVariants.{Read, WriteOut, WriteMessages}
use Rattle.filter.specs.declared.status.Status.{Status}

-- what a filter keeps between pieces
pub record FilterState : Type 0 where
  pub options : Options
  pub line : HeldLine
  pub line_count : ℕ
  pub status : Status
  pub is_spent : Bool

-- the filter has these options, each in its range, and was fed this text of bytes
pub record IsAfter (options : Options) (state : FilterState) (text : List ℕ) : Type 0 where
  pub options_are : state.options ≡ options
  pub range : IsInRange options.run.scale options.label.height options.label.min_version options.label.mask
  pub bytes : All (λ b. b < 256) text
  pub line : state.line ≡ held_line (open_line text)
  pub line_count : state.line_count ≡ min (length (ended_lines text)) (2 ^ 64 - 1)
  pub status_is : state.status ≡ status_of (ended_script options text)
  pub is_spent : state.is_spent ≡ false

-- what each of the sinks took
abbrev pub taken : (out err : List ℕ → Type 0) → Channel → List ℕ → Type 0
taken out err Images = out
taken out err Messages = err

-- each sink took its bytes of the events
abbrev pub Took : RunValues → (took : Channel → List ℕ → Type 0) → List Event → Type 0
Took run took events = (channel : Channel) → took channel (sent run channel events)

-- the fault of a sink
abbrev pub fault_of : Channel → RunFault
fault_of Images = WriteOut
fault_of Messages = WriteMessages

-- the other sink
abbrev pub other : Channel → Channel
other Images = Messages
other Messages = Images

-- A sink failed in one of the events. Each sink took its bytes of the events before that one, and the sink that failed
-- took a beginning of its bytes of that one too.
pub record Stops (run : RunValues) (took : Channel → List ℕ → Type 0) (events : List Event) (fault : RunFault)
    : Type 0 where
  pub failed : Channel
  pub fault_is : fault ≡ fault_of failed
  pub done : List Event
  pub event : Event
  pub later : List Event
  pub cut : events ≡ done ++ event ∷ later
  pub own : Begins (λ bytes. took failed (sent run failed done ++ bytes)) (bytes_for run failed event)
  pub others : took (other failed) (sent run (other failed) done)

-- a call that sends what one script has after another: at `Ok` all of it, and at `Err` a sink failed in it
pub record Sends {T : Type 0} (run : RunValues) (took : Channel → List ℕ → Type 0) (before after : List Event)
    (r : Result T RunFault) : Type 0 where
  pub added : List Event
  pub grown : after ≡ before ++ added
  pub sends : MatchResult r (λ _. Took run took added) (Stops run took added)

-- a call of a filter that was fed one text: it feeds it up to another, and sends what the lines that this ends send
pub record Feeds {T : Type 0} (options : Options) (took : Channel → List ℕ → Type 0) (state : FilterState)
    (before after : List ℕ) (r : Result T RunFault) : Type 0 where
  pub sends : Sends options.run took (ended_script options before) (ended_script options after) r
  pub is_after : OnOk r (IsAfter options state after)

-- The counts of failures of the images' sink, `o`, and of the messages' sink, `e`: at `Ok` none rises, at `Err` that of
-- the sink that failed.
abbrev pub CountsFault : {T : Type 0} → (o o' e e' : ℕ) → Result T RunFault → Type 0
CountsFault o o' e e' (Ok x) = (o' ≡ o) × (e' ≡ e)
CountsFault o o' e e' (Err WriteOut) = Rises o o' × (e' ≡ e)
CountsFault o o' e e' (Err WriteMessages) = (o' ≡ o) × Rises e e'
CountsFault o o' e e' (Err fault) = ⊥

-- The flush marks of both: at `Ok` both sinks are flushed; at `Err` none is that was not before, but for the images
-- where the messages failed, which may be: they are flushed first.
abbrev pub FlushesImagesFirst : {T : Type 0} → (o o' e e' : Bool) → Result T RunFault → Type 0
FlushesImagesFirst o o' e e' (Ok x) = (o' ≡ true) × (e' ≡ true)
FlushesImagesFirst o o' e e' (Err fault) = (fault ≢ WriteMessages → Unflushed o o') × Unflushed e e'

-- Where a read or the messages failed, `nothing` holds: nothing is buffered. Any call may fail, and none follows one
-- that failed, so nothing is buffered at each read and at each call of the messages' sink.
abbrev pub PassesOnFirst : {T : Type 0} → (nothing : Type 0) → Result T RunFault → Type 0
PassesOnFirst nothing (Err Read) = nothing
PassesOnFirst nothing (Err WriteMessages) = nothing
PassesOnFirst nothing other = ⊤

-- a call that flushes nothing: the count of the sink that failed rises, and a sink that is flushed now was so before
pub record FlushesNeither {O E T : Type 0} (out : Ghosts O) (err : Ghosts E) (o o' : O) (e e' : E)
    (r : Result T RunFault) : Type 0 where
  pub counts : CountsFault (out.failures o) (out.failures o') (err.failures e) (err.failures e') r
  pub out_unflushed : Unflushed (out.is_flushed o) (out.is_flushed o')
  pub err_unflushed : Unflushed (err.is_flushed e) (err.is_flushed e')
  pub passed_on : PassesOnFirst (out.buffers_nothing o') r

-- the refusal of what is not drawn
abbrev pub refusal_of : Outcome Symbol → Result (Unit {0}) Fault
refusal_of (refused fault) = Err fault
refusal_of other = Ok tt

-- the image is written, or nothing where there is none; and a refusal is returned
pub record DrawsOutcome {S E : Type 0} (sink : Ghosts S) (old new : S) (run : RunValues)
    (outcome : Outcome Symbol) (r : Result (Result (Unit {0}) Fault) E) : Type 0 where
  pub writes : WritesText sink old new (image_of run outcome) r
  pub refusal : IfOk r (λ drawn. drawn ≡ refusal_of outcome)
