-- From the arguments to what the program writes and to its status (docs/SPECIFICATION.md, Options, Statuses).
-- Why: `Finishes`, `Ends`, `RunsSo`, `RunsShown`: the contract of `program`; `RunsOver`: what `run_streams` promises.
use Rattle.std.specs.Prelude.{◌≡◌, ◌⊎◌, ℕ, Option, Some, None, List, ◌++◌, Result, Ok, Err, IfOk, IfSome, OnOk, true}
use Rattle.std.specs.Prelude.{MatchResult}
use Rattle.std.specs.Io.KnownBytes.{Appends}
use Rattle.std.specs.Option.{option_map_or}
use Rattle.clap.specs.Words.{Text}
use Rattle.device.specs.Buffered.{buffered_bytes, sink_of}
use Rattle.device.specs.Device.{Begins, CountsFailure}
use Rattle.device.specs.New.{IsNewSource}
use Rattle.device.specs.Streams.{reader_of, writer_of}
use Rattle.device.specs.Writing.{WritesText}
use Rattle.device.specs.declared.buffered.Buffered.{Buffered}
use Rattle.device.specs.declared.io_fault.IoFault.{IoFault}
use Rattle.device.specs.declared.sink.Sink.{Ghosts as SinkGhosts}
use Rattle.device.specs.declared.source.Source.{Ghosts as SourceGhosts}
use Rattle.device.specs.declared.streams.StdSink.{StdSink}
use Rattle.device.specs.declared.streams.StdSource.{StdSource}
use Rattle.labelcore.specs.declared.options.Options.{Options}
use Rattle.filter.specs.Filter.{taken}
use Rattle.filter.specs.Output.{Channel}
use Rattle.filter.specs.Run.{Produces, Runs}
use Rattle.filter.specs.Shown.{Shows}
use Rattle.filter.specs.declared.status.RunFault.{RunFault}
use Rattle.filter.specs.declared.status.RunFault.TheVariants.{WriteOut}
use Rattle.filter.specs.declared.status.Status.{Status}
use Rattle.command.specs.CommandLine.{Invocation, run, help, bad, invocation_of}
use Rattle.command.specs.End.{exit_status, line_of}
use Rattle.command.specs.declared.end.End.{End}
use Rattle.command.specs.declared.end.End.TheVariants.{Ran, Helped, BadWords, NoFile as NotOpened, NoMemory}
use Rattle.command.specs.declared.file.NamedFiles.{Ghosts as FilesGhosts}
use Rattle.command.specs.declared.file.OpenFault.TheVariants.{Memory, NoFile}

-- a sink took a text and is flushed, or it failed and took a beginning of the text
pub record Helps {O : Type 0} (out : SinkGhosts O) (o o' : O) (r : Result (Unit {0}) IoFault) : Type 0 where
  pub text : List ℕ
  pub bytes : MatchResult r (λ _. out.took o o' text) (λ _. Begins (out.took o o') text)
  pub count : CountsFailure (out.failures o) (out.failures o') r
  pub flushed : OnOk r (out.is_flushed o' ≡ true)

-- what a program has at a time: the files, the input, the images' sink and the messages' sink
pub record Devices (F R W : Type 0) (below : SinkGhosts (StdSink W)) (E : Type 0) : Type 0 where
  pub files : F
  pub input : StdSource R
  pub output : Buffered (StdSink W) below
  pub errors : E

-- a reader as a source, and what it has left, where that is known
pub record Given (S : Type 0) : Type 1 where
  pub source : SourceGhosts (StdSource S)
  pub left : S → Option (List ℕ)

-- what is said of the devices, and of a file that is opened; `contents` is what the writer has, where that is known
pub record World (F R T W : Type 0) (below : SinkGhosts (StdSink W)) (E : Type 0) : Type 1 where
  pub files : FilesGhosts F T
  pub file : Given T
  pub input : Given R
  pub out : SinkGhosts (Buffered (StdSink W) below)
  pub contents : W → Option (List ℕ)
  pub err : SinkGhosts E

-- from `b` to `a` the writer below the buffer took what was buffered and a stream, and the messages' sink the messages
abbrev pub Wrote : {F R T W E : Type 0} {below : SinkGhosts (StdSink W)} → World F R T W below E
    → (b a : Devices F R W below E) → Channel → List ℕ → Type 0
Wrote world b a = taken (λ stream. Appends (world.contents (writer_of (sink_of b.output)))
    (world.contents (writer_of (sink_of a.output))) (buffered_bytes b.output ++ stream)) (world.err.took b.errors a.errors)

-- A run of a source from one state to another. At `Ok` the writer took all images, and where it is known what the
-- source had left, they are the images of these bytes.
pub record RunsOver {F R S T W E : Type 0} {below : SinkGhosts (StdSink W)} (world : World F R T W below E)
    (b a : Devices F R W below E) (given : Given S) (s s' : StdSource S) (options : Options) (r : Result Status RunFault)
    : Type 0 where
  pub runs : Runs given.source world.out world.err options s s' b.output a.output b.errors a.errors r
  pub whole : OnOk r (Produces options (λ text. IfSome (given.left (reader_of s)) (λ bytes. text ≡ bytes)) (Wrote world b a) r)

module _ {F R T W E : Type 0} {below : SinkGhosts (StdSink W)} (world : World F R T W below E)
    (b a : Devices F R W below E) where
  -- the runs that the program makes: over the input, or over a new source that has the bytes of the file that is named
  abbrev pub RunsSo : Option Text → Options → Result Status RunFault → Type 0
  RunsSo None options r = RunsOver world b a world.input b.input a.input options r
  RunsSo (Some name) options r = (first last : StdSource T) × IsNewSource world.file.source first
      × IfSome (world.files.bytes_of b.files name) (λ bytes. world.file.left (reader_of first) ≡ Some bytes)
      × RunsOver world b a world.file first last options r

  -- the same runs, by what their images are read as
  abbrev pub RunsShown : Option Text → Options → Result Status RunFault → Type 0
  RunsShown name options r = IfOk r (Shows options (λ text.
      IfSome (option_map_or (world.files.bytes_of b.files) name (world.input.left (reader_of b.input))) (λ bytes. text ≡ bytes))
      (Wrote world b a))

  -- The program ends so, and did just what its arguments ask for. `ran` says it of a run. Any call of a device may change
  -- it, so one that is as it was before was not called: the input is read only in a run over it, only a file that is named
  -- is opened, once, and help goes to the output alone. A file is refused only as files may be: with `NoMemory` for a lack
  -- of memory, or before it is opened, where memory ran out for the arguments.
  abbrev pub Ends : (Option Text → Options → Result Status RunFault → Type 0) → End → Invocation → Type 0
  Ends ran NoMemory (run options (Some name)) =
      (a ≡ b) ⊎ (world.files.opens b.files name a.files × (a ≡ record b { files = a.files })
      × world.files.refuses b.files name Memory)
  Ends ran NoMemory asked = a ≡ b
  Ends ran (Ran r) (run options (Some name)) =
      world.files.opens b.files name a.files × (a.input ≡ b.input) × ran (Some name) options r
  Ends ran (Ran r) (run options None) = (a.files ≡ b.files) × ran None options r
  Ends ran NotOpened (run options (Some name)) =
      world.files.opens b.files name a.files × (a ≡ record b { files = a.files }) × world.files.refuses b.files name NoFile
  Ends ran Helped help = Helps world.out b.output a.output (Ok tt) × (a ≡ record b { output = a.output })
  Ends ran (Ran (Err WriteOut)) help =
      ((fault : IoFault) × Helps world.out b.output a.output (Err fault)) × (a ≡ record b { output = a.output })
  Ends ran BadWords bad = a ≡ b
  Ends ran other asked = ⊥

  abbrev pub EndsSo : End → Invocation → Type 0
  EndsSo = Ends RunsSo

  abbrev pub EndsShown : End → Invocation → Type 0
  EndsShown = Ends RunsShown

-- The program ends as its arguments ask for, or where it has none, so and with no call before. After all else the line of
-- the end is written to the messages' sink, and the status is that of the end.
pub record Finishes {F R T W E : Type 0} {below : SinkGhosts (StdSink W)} (world : World F R T W below E)
    (ends : World F R T W below E → (b a : Devices F R W below E) → End → Invocation → Type 0)
    (arguments : Result (List Text) End) (b a : Devices F R W below E) (status : ℕ) : Type 0 where
  pub end : End
  pub told : E
  pub ends_so : let last : Devices F R W below E = record a { errors = told } in
      MatchResult arguments (λ words. ends world b last end (invocation_of words))
      (λ early. (end ≡ early) × (last ≡ b))
  pub written : Result (Unit {0}) IoFault
  pub line : WritesText world.err told a.errors (line_of end) written
  pub status_is : status ≡ exit_status end
