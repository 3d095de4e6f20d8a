-- The devices over std, as their clauses see them (docs/SPECIFICATION.md, The filter as a library).
use Rattle.device.specs.declared.streams.StdSource.{StdSource}
use Rattle.device.specs.declared.streams.StdSink.{StdSink}

-- the reader that a source reads
abbrev pub reader_of : {R : Type 0} → StdSource R → R
reader_of source = source.reader

-- the writer that a sink writes to
abbrev pub writer_of : {W : Type 0} → StdSink W → W
writer_of sink = sink.writer
