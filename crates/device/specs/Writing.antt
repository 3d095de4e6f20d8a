-- What every call that writes a text promises (docs/SPECIFICATION.md, The filter as a library).
use Rattle.std.specs.Prelude.{ℕ, List, Result, MatchResult}
use Rattle.device.specs.Device.{Begins, CountsFailure, Unflushed}
use Rattle.device.specs.declared.sink.Sink.{Ghosts}

-- The sink took the whole text at `Ok`, and a beginning of it at `Err`.
-- A failure is counted, and a sink that is flushed afterwards was flushed before.
pub record WritesText {S T E : Type 0} (sink : Ghosts S) (old new : S) (text : List ℕ) (r : Result T E) : Type 0 where
  pub bytes : MatchResult r (λ _. sink.took old new text) (λ _. Begins (sink.took old new) text)
  pub count : CountsFailure (sink.failures old) (sink.failures new) r
  pub unflushed : Unflushed (sink.is_flushed old) (sink.is_flushed new)
