-- What holds of a device before its first call (docs/SPECIFICATION.md, The filter as a library).
use Rattle.std.specs.Prelude.{◌≡◌, false}
use Rattle.device.specs.declared.sink.Sink.{Ghosts as SinkGhosts}
use Rattle.device.specs.declared.source.Source.{Ghosts as SourceGhosts}

-- a source that counts no failure and is not at its end
pub record IsNewSource {S : Type 0} (source : SourceGhosts S) (s : S) : Type 0 where
  pub failures : source.failures s ≡ 0
  pub end : source.at_end s ≡ false

-- a sink that counts no failure and is not flushed
pub record IsNewSink {S : Type 0} (sink : SinkGhosts S) (s : S) : Type 0 where
  pub failures : sink.failures s ≡ 0
  pub flushed : sink.is_flushed s ≡ false
