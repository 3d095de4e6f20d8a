-- A run over a whole input: the headline (docs/SPECIFICATION.md, The filter as a library).
-- Why: `Produces`, `Runs`: the contracts of `run` and `run_streams`.
use Rattle.std.specs.Prelude.{◌≡◌, ℕ, ◌-◌, ◌^◌, ◌≤◌, ◌⊎◌, true, List, length, Result, Ok, Err, IfOk, OnOk}
use Rattle.device.specs.Device.{Rises}
use Rattle.device.specs.declared.sink.Sink.{Ghosts as SinkGhosts}
use Rattle.device.specs.declared.source.Source.{Ghosts as SourceGhosts}
use Rattle.labelcore.specs.declared.options.Options.{Options}
use Rattle.filter.specs.Output.{Channel, ended_script, script, status_of}
use Rattle.filter.specs.Readback.{ReadsBack}
use Rattle.filter.specs.Filter.{FlushesImagesFirst, PassesOnFirst, Took, Stops, taken}
use Rattle.filter.specs.declared.status.RunFault.{RunFault}
use Rattle.filter.specs.declared.status.RunFault.TheVariants.{Read, WriteOut, WriteMessages, Spent}
use Rattle.filter.specs.declared.status.Status.{Status}

-- What the sinks took of a text: at `Ok` all that its script sends. At `Err` a sink failed in the script; or, where a
-- read failed, they took all that is sent of the ended lines.
abbrev pub TookText : Options → (took : Channel → List ℕ → Type 0) (text : List ℕ) → Result Status RunFault → Type 0
TookText options took text (Ok status) = Took options.run took (script options text)
TookText options took text (Err Read) = Took options.run took (ended_script options text)
TookText options took text (Err fault) = Stops options.run took (script options text) fault

-- Of the one text that the source gave, the sinks took what its script sends, and the status is the script's. And what
-- the script sends reads back.
pub record Produces (options : Options) (gave : List ℕ → Type 0) (took : Channel → List ℕ → Type 0)
    (r : Result Status RunFault) : Type 0 where
  pub text : List ℕ
  pub given : gave text
  pub sends : TookText options took text r
  pub status : IfOk r (λ status. status ≡ status_of (script options text))
  pub read : ReadsBack options.run (script options text)

-- The counts of failures of the source, `s`, the images' sink, `o`, and the messages' sink, `e`: at `Ok` none rises, at
-- `Err` that of the device that failed. None does where the run made 2^64 - 1 reads, and so the text has at least that
-- many bytes.
abbrev pub RunCounts : (s s' o o' e e' : ℕ) → Result Status RunFault → List ℕ → Type 0
RunCounts s s' o o' e e' (Ok status) text = (s' ≡ s) × (o' ≡ o) × (e' ≡ e)
RunCounts s s' o o' e e' (Err Read) text =
    (Rises s s' ⊎ ((s' ≡ s) × (2 ^ 64 - 1 ≤ length text))) × (o' ≡ o) × (e' ≡ e)
RunCounts s s' o o' e e' (Err WriteOut) text = (s' ≡ s) × Rises o o' × (e' ≡ e)
RunCounts s s' o o' e e' (Err WriteMessages) text = (s' ≡ s) × (o' ≡ o) × Rises e e'
RunCounts s s' o o' e e' (Err Spent) text = ⊥

-- One statement of a run, from the states of a source and two sinks before it to those after: what it produces of what
-- the source gave, whose counts of failures rise, that at `Ok` the source is at its end, that no read follows the one
-- at the end, that the images are passed on before each read and each message, and which sinks are flushed.
pub record Runs {S O E : Type 0} (source : SourceGhosts S) (out : SinkGhosts O) (err : SinkGhosts E)
    (options : Options) (s s' : S) (o o' : O) (e e' : E) (r : Result Status RunFault) : Type 0 where
  pub produces : Produces options (λ text. source.gave s s' text × RunCounts (source.failures s)
      (source.failures s') (out.failures o) (out.failures o') (err.failures e) (err.failures e') r text)
      (taken (out.took o o') (err.took e e')) r
  pub ended : OnOk r ((source.at_end s' ≡ true) × source.ends s')
  pub unended : r ≡ Err Read → source.at_end s' ≡ true → source.at_end s ≡ true
  pub passed_on : PassesOnFirst (out.buffers_nothing o') r
  pub flushed : FlushesImagesFirst (out.is_flushed o) (out.is_flushed o') (err.is_flushed e) (err.is_flushed e') r
