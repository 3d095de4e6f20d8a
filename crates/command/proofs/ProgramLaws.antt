-- What the calls of the program need.
use Rattle.std.proofs.Common.{◌≡◌, ℕ, List, [], ◌++◌, Option, None, Some, Result, Ok, Err, refl, subst, sym, ◌∙◌}
use Rattle.std.proofs.lemmas.List.{append-nil}
use Rattle.std.specs.Prelude.{IfOk, IfSome, MatchResult}
use Rattle.device.specs.Device.{Begins}
use Rattle.device.specs.Sink.{Flushes}
use Rattle.device.specs.Streams.{reader_of}
use Rattle.device.specs.declared.io_fault.IoFault.{IoFault}
use Rattle.device.specs.declared.streams.StdSink.{StdSink}
use Rattle.device.specs.declared.streams.StdSource.{StdSource}
use Rattle.device.specs.declared.sink.Sink.{Ghosts as SinkGhosts}
use Rattle.clap.specs.Words.{Text}
use Rattle.labelcore.specs.declared.options.Options.{Options}
use Rattle.filter.specs.Shown.{Shows}
use Rattle.filter.specs.declared.status.RunFault.{RunFault}
use Rattle.filter.specs.declared.status.RunFault.TheVariants.{WriteOut}
use Rattle.filter.specs.declared.status.Status.{Status}
use Rattle.filter.proofs.Laws.ShownLaws.{Shows-from}
use Rattle.command.specs.CommandLine.{Invocation, bad, help, run}
use Rattle.command.specs.Program.{Devices, Given, EndsShown, EndsSo, Helps, RunsOver, RunsShown, RunsSo, World, Wrote}
use Rattle.command.specs.declared.end.End.{End}
use Rattle.command.specs.declared.end.End.TheVariants.{BadWords, Helped, NoFile as NotOpened, NoMemory, Ran}

-- a text that was taken, and then a flush
pub Helps-flushed : {O : Type 0} (out : SinkGhosts O) (o m o' : O) (text : List ℕ)
    → ((s t u : O) (xs ys : List ℕ) → out.took s t xs → out.took t u ys → out.took s u (xs ++ ys))
    → out.took o m text → out.failures m ≡ out.failures o → (r : Result (Unit {0}) IoFault)
    → Flushes out.failures out.is_flushed out.buffers_nothing out.took m o' r → Helps out o o' r
Helps-flushed out o m o' text joined took count (Ok x) h = record {
  text = text ++ [];
  bytes = joined o m o' text [] took h.bytes;
  count = h.count ∙ count;
  flushed = h.flushed;
}
Helps-flushed out o m o' text joined took count (Err fault) h = record {
  text = text ++ [];
  bytes = (text ++ [], ([], sym (append-nil (text ++ []))), joined o m o' text [] took h.bytes);
  count = rw (sym count) h.count;
  flushed = tt;
}

-- what that is: the text
pub prints-flushed : {O : Type 0} (out : SinkGhosts O) (o m o' : O) (text : List ℕ)
    → ((s t u : O) (xs ys : List ℕ) → out.took s t xs → out.took t u ys → out.took s u (xs ++ ys))
    → out.took o m text → (r : Result (Unit {0}) IoFault)
    → Flushes out.failures out.is_flushed out.buffers_nothing out.took m o' r
    → MatchResult r (λ _. out.took o o' text) (λ _. Begins (out.took o o') text)
prints-flushed out o m o' text joined took (Ok x) h =
    subst (out.took o o') (append-nil text) (joined o m o' text [] took h.bytes)
prints-flushed out o m o' text joined took (Err fault) h =
    (text, ([], sym (append-nil text)), subst (out.took o o') (append-nil text) (joined o m o' text [] took h.bytes))

-- ---- by what images are read as

-- known bytes are those
pub is_known : (known : Option (List ℕ)) → IfSome known (λ bytes. known ≡ Some bytes)
is_known None = tt
is_known (Some bytes) = refl

known_given : (known left : Option (List ℕ)) (text : List ℕ) → IfSome known (λ bytes. left ≡ Some bytes)
    → IfSome left (λ bytes. text ≡ bytes) → IfSome known (λ bytes. text ≡ bytes)
known_given None left text has given = tt
known_given (Some bytes) left text has given = subst (λ o. IfSome o (λ bytes. text ≡ bytes)) has given

module _ {F R T W E : Type 0} {below : SinkGhosts (StdSink W)} (world : World F R T W below E)
    (b a : Devices F R W below E) where
  -- a run, by what its images are read as
  shows_over : {S : Type 0} (given : Given S) (s s' : StdSource S)
      (options : Options) (r : Result Status RunFault) (known : Option (List ℕ))
      → IfSome known (λ bytes. given.left (reader_of s) ≡ Some bytes) → RunsOver world b a given s s' options r
      → IfOk r (Shows options (λ text. IfSome known (λ bytes. text ≡ bytes)) (Wrote world b a))
  shows_over given s s' options (Ok status) known has h =
      let shows = Shows-from options (λ text. IfSome (given.left (reader_of s)) (λ bytes. text ≡ bytes)) (Wrote world b a) status h.whole in
      record {
        text = shows.text;
        given = known_given known (given.left (reader_of s)) shows.text has shows.given;
        shown = shows.shown;
        each = shows.each;
        stream = shows.stream;
        images = shows.images;
        took_images = shows.took_images;
        took_messages = shows.took_messages;
        status_is = shows.status_is;
      }
  shows_over given s s' options (Err fault) known has h = tt

  shown : (name : Option Text) (options : Options) (r : Result Status RunFault) → RunsSo world b a name options r
      → RunsShown world b a name options r
  shown None options r h =
      shows_over world.input b.input a.input options r _ (is_known (world.input.left (reader_of b.input))) h
  shown (Some name) options r h = shows_over world.file h.0 h.1 options r _ h.3 h.4

  -- what the program does, by what its images are read as
  pub EndsShown-from : (end : End) (asked : Invocation) → EndsSo world b a end asked → EndsShown world b a end asked
  EndsShown-from NoMemory (run options (Some name)) h = h
  EndsShown-from NoMemory asked h = h
  EndsShown-from (Ran r) (run options (Some name)) h = (h.0, h.1, shown (Some name) options r h.2)
  EndsShown-from (Ran r) (run options None) h = (h.0, shown None options r h.1)
  EndsShown-from NotOpened (run options (Some name)) h = h
  EndsShown-from Helped help h = h
  EndsShown-from (Ran (Err WriteOut)) help h = h
  EndsShown-from BadWords bad h = h
  EndsShown-from other asked h = absurd h
