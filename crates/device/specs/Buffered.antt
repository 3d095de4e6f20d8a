-- A sink that buffers bytes, as its clauses see it (docs/SPECIFICATION.md, The filter as a library).
use Rattle.std.specs.Prelude.{ℕ, List, slice_range}
use Rattle.device.specs.declared.sink.Sink.{Ghosts}
use Rattle.device.specs.declared.buffered.Buffered.{Buffered}

-- the sink below
abbrev pub sink_of : {S : Type 0} {below : Ghosts S} → Buffered S below → S
sink_of s = s.sink

-- the bytes that it buffers
abbrev pub buffered_bytes : {S : Type 0} {below : Ghosts S} → Buffered S below → List ℕ
buffered_bytes s = slice_range s.bytes s.start s.end
