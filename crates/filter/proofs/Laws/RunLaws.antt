-- From the calls of a filter to a run over a whole input.
use Rattle.filter.proofs.Laws.Words.{◌≡◌, ℕ, ◌-◌, ◌^◌, ◌≤◌, ◌<◌, ◌∙◌, ◌⊎◌, All, Bool, Result, Ok, Err, List, [], ◌++◌}
use Rattle.filter.proofs.Laws.Words.{length, true, sym, refl, IfOk, MatchResult, OnOk, Rises, Options}
use Rattle.filter.proofs.Laws.Words.{CountsFault, FilterState, FlushesImagesFirst, Feeds, FlushesNeither, Sends, Stops, Took}
use Rattle.filter.proofs.Laws.Words.{fault_of, taken, Channel, Images, IsAfter, ◌∷◌, ended_script, script, status_of, RunFault}
use Rattle.filter.proofs.Laws.Words.{Read, WriteOut, Status, arith}
use Rattle.device.specs.Sink.{PassesBuffered}
use Rattle.device.specs.declared.sink.Sink.{Ghosts as SinkGhosts}
use Rattle.device.specs.declared.source.Source.{Ghosts as SourceGhosts}
use Rattle.filter.specs.Filter.{PassesOnFirst}
use Rattle.filter.specs.Run.{Produces, RunCounts, Runs, TookText}
use Rattle.labelcore.proofs.Laws.KeptLaws.{AreInRange}
use Rattle.filter.proofs.Laws.FilterLaws.{ended_script-nil, some_later}
use Rattle.filter.proofs.Laws.ReadLaws.{script_of_text_read}
use Rattle.filter.proofs.Laws.ScriptLaws.{none_taken, Sends-append, Sends-none, Stops-first}

-- no sink's fault is that of a read
not_read : (failed : Channel) → Read ≡ fault_of failed → ⊥
not_read failed e = grind arith

module _ (options : Options) where
  -- what calls of sinks send, as a run's
  TookText-sinks : (took : Channel → List ℕ → Type 0) (text : List ℕ) (r : Result Status RunFault)
      → MatchResult r (λ _. Took options.run took (script options text)) (Stops options.run took (script options text))
      → TookText options took text r
  TookText-sinks took text r h = grind (arith, h, not_read)

  -- calls of sinks that send the whole script of a text, or stop in it
  pub Produces-sends : (range : AreInRange options.run options.label) {gave : List ℕ → Type 0}
      {took : Channel → List ℕ → Type 0} (text : List ℕ) (r : Result Status RunFault) → gave text
      → All (λ b. b < 256) text → Sends options.run took (ended_script options []) (script options text) r
      → IfOk r (λ status. status ≡ status_of (script options text)) → Produces options gave took r
  Produces-sends range {gave} {took} text r given bytes sends status =
      let all = rw (ended_script-nil options) at sends in
      record {
        text = text;
        given = given;
        sends = TookText-sinks took text r (rw all.grown all.sends);
        status = status;
        read = script_of_text_read options range text bytes;
      }

-- the counts of the sinks, as a run's
RunCounts-sinks : (s s' o o' e e' : ℕ) → s' ≡ s → (r : Result Status RunFault) (text : List ℕ)
    → CountsFault o o' e e' r → RunCounts s s' o o' e e' r text
RunCounts-sinks s s' o o' e e' same r text counts = grind (arith, same, counts)

-- no call of a sink ends as a failed read does
never_read : {A : Type 0} (o o' e e' : ℕ) (r : Result Status RunFault) → CountsFault o o' e e' r → r ≡ Err Read → A
never_read o o' e e' r counts is = grind (arith, counts, is)

-- a call after one in which no sink failed, and none was flushed
module _ {O E T : Type 0} {out : SinkGhosts O} {err : SinkGhosts E} {o : O} {o' : O} {e : E} {e' : E} {x : T}
    (first : FlushesNeither {T = T} out err o o' e e' (Ok x)) where
  pub CountsFault-after : {U : Type 0} (o'' e'' : ℕ) (r : Result U RunFault)
      → CountsFault (out.failures o') o'' (err.failures e') e'' r
      → CountsFault (out.failures o) o'' (err.failures e) e'' r
  CountsFault-after o'' e'' r counts = rw (first.counts.0, first.counts.1) at counts

  pub FlushesNeither-append : {U : Type 0} {o'' : O} {e'' : E} (r : Result U RunFault)
      → FlushesNeither {T = U} out err o' o'' e' e'' r → FlushesNeither {T = U} out err o o'' e e'' r
  FlushesNeither-append r next = record {
    counts = CountsFault-after _ _ r next.counts;
    out_unflushed = λ h. first.out_unflushed (next.out_unflushed h);
    err_unflushed = λ h. first.err_unflushed (next.err_unflushed h);
    passed_on = next.passed_on;
  }

  pub FlushesImagesFirst-after : {U : Type 0} (o'' e'' : Bool) (r : Result U RunFault)
      → FlushesImagesFirst (out.is_flushed o') o'' (err.is_flushed e') e'' r
      → FlushesImagesFirst (out.is_flushed o) o'' (err.is_flushed e) e'' r
  FlushesImagesFirst-after o'' e'' (Ok y) marks = marks
  FlushesImagesFirst-after o'' e'' (Err fault) marks =
      (λ other h. first.out_unflushed (marks.0 other h), λ h. first.err_unflushed (marks.1 h))

-- a run so far: the filter was fed what the source gave, each turn gave a byte or more, and no device failed
pub record HasRun {S O E : Type 0} (source : SourceGhosts S) (out : SinkGhosts O) (err : SinkGhosts E)
    (options : Options) (s s' : S) (o o' : O) (e e' : E) (state : FilterState) (given : List ℕ) : Type 0 where
  pub gave : source.gave s s' given
  pub count : source.failures s' ≡ source.failures s
  pub fed : Feeds {T = Unit {0}} options (taken (out.took o o') (err.took e e')) state [] given (Ok tt)
  pub sinks : FlushesNeither {T = Unit {0}} out err o o' e e' (Ok tt)

-- a run of which nothing was done
pub HasRun-none : {S O E : Type 0} (source : SourceGhosts S) (out : SinkGhosts O) (err : SinkGhosts E)
    (options : Options) (s : S) (o : O) (e : E) {state : FilterState} → source.gave s s [] → out.took o o []
    → err.took e e [] → IsAfter options state [] → HasRun source out err options s s o o e e state []
HasRun-none source out err options s o e gave none_out none_err is_after = record {
  gave = gave;
  count = refl;
  fed = record { sends = Sends-none options.run tt refl none_out none_err; is_after = is_after };
  sinks = record { counts = (refl, refl); out_unflushed = λ e. e; err_unflushed = λ e. e; passed_on = tt };
}

module _ {S O E : Type 0} {source : SourceGhosts S} {out : SinkGhosts O} {err : SinkGhosts E}
    (out_joined : (s t u : O) (xs ys : List ℕ) → out.took s t xs → out.took t u ys → out.took s u (xs ++ ys))
    (err_joined : (s t u : E) (xs ys : List ℕ) → err.took s t xs → err.took t u ys → err.took s u (xs ++ ys))
    {options : Options} {s : S} {s' : S} {o : O} {o' : O} {e : E} {e' : E} {state : FilterState} {given : List ℕ}
    (h : HasRun source out err options s s' o o' e e' state given) where
  -- a call of the filter or of a sink that succeeds, and flushes nothing
  pub HasRun-append : {s'' : S} {o'' : O} {e'' : E} {state' : FilterState} {text : List ℕ}
      → source.gave s s'' text → source.failures s'' ≡ source.failures s'
      → Feeds {T = Unit {0}} options (taken (out.took o' o'') (err.took e' e'')) state' given text (Ok tt)
      → FlushesNeither {T = Unit {0}} out err o' o'' e' e'' (Ok tt)
      → HasRun source out err options s s'' o o'' e e'' state' text
  HasRun-append gave count fed sinks = record {
    gave = gave;
    count = count ∙ h.count;
    fed = record {
      sends = Sends-append out_joined err_joined options.run (Ok tt) h.fed.sends fed.sends;
      is_after = fed.is_after;
    };
    sinks = FlushesNeither-append h.sinks (Ok tt) sinks;
  }

  -- what the sink of the images buffers is passed on
  pub HasRun-passed : {T F : Type 0} {x : T} {o'' : O} → err.took e' e' []
      → PassesBuffered {T = T} {E = F} out.failures out.is_flushed out.buffers_nothing out.took o' o'' (Ok x)
      → HasRun source out err options s s' o o'' e e' state given
  HasRun-passed none_err passed = HasRun-append h.gave refl
      (record { sends = Sends-none options.run tt refl passed.bytes none_err; is_after = h.fed.is_after })
      (record {
        counts = (passed.count, refl);
        out_unflushed = λ e. sym passed.flushed ∙ e;
        err_unflushed = λ e. e;
        passed_on = tt;
      })

  -- the run ends in a call of the filter or of a sink
  pub Runs-after : {s'' : S} {o'' : O} {e'' : E} (text : List ℕ) (r : Result Status RunFault)
      → source.gave s s'' text → source.failures s'' ≡ source.failures s' → All (λ b. b < 256) text
      → Sends options.run (taken (out.took o' o'') (err.took e' e'')) (ended_script options given)
      (script options text) r → IfOk r (λ status. status ≡ status_of (script options text))
      → OnOk r ((source.at_end s'' ≡ true) × source.ends s'')
      → CountsFault (out.failures o') (out.failures o'') (err.failures e') (err.failures e'') r
      → FlushesImagesFirst (out.is_flushed o') (out.is_flushed o'') (err.is_flushed e') (err.is_flushed e'') r
      → PassesOnFirst (out.buffers_nothing o'') r → Runs source out err options s s'' o o'' e e'' r
  Runs-after text r gave count bytes sends status ended counts marks passed_on = record {
    produces = Produces-sends options h.fed.is_after.range text r
        (gave, RunCounts-sinks _ _ _ _ _ _ (count ∙ h.count) r text (CountsFault-after h.sinks _ _ r counts)) bytes
        (Sends-append out_joined err_joined options.run r h.fed.sends sends) status;
    ended = ended;
    unended = never_read _ _ _ _ r counts;
    passed_on = passed_on;
    flushed = FlushesImagesFirst-after h.sinks _ _ r marks;
  }

  -- the run ends where what is buffered is not passed on
  pub Runs-unpassed : {T F : Type 0} {fault : F} {o'' : O} → err.took e' e' []
      → PassesBuffered {T = T} {E = F} out.failures out.is_flushed out.buffers_nothing out.took o' o'' (Err fault)
      → Runs source out err options s s' o o'' e e' (Err WriteOut)
  Runs-unpassed none_err passed = let later = some_later options given in
      Runs-after given (Err WriteOut) h.gave refl h.fed.is_after.bytes (record {
        added = later.0 ∷ later.1;
        grown = later.2;
        sends = Stops-first options.run _ Images later.0 later.1 (none_taken _ _ passed.bytes none_err);
      }) tt tt (passed.count, refl) (λ other is. sym passed.flushed ∙ is, λ is. is) tt

  -- the run ends in a read
  pub Runs-read : {s'' : S} → source.gave s s'' given → (Rises (source.failures s) (source.failures s'')
      ⊎ ((source.failures s'' ≡ source.failures s) × (2 ^ 64 - 1 ≤ length given)))
      → (source.at_end s'' ≡ true → source.at_end s ≡ true) → out.buffers_nothing o'
      → Runs source out err options s s'' o o' e e' (Err Read)
  Runs-read gave counts unended passed_on = let sends = rw (ended_script-nil options) at h.fed.sends in record {
    produces = record {
      text = given;
      given = (gave, (counts, h.sinks.counts.0, h.sinks.counts.1));
      sends = rw sends.grown sends.sends;
      status = tt;
      read = script_of_text_read options h.fed.is_after.range given h.fed.is_after.bytes;
    };
    ended = tt;
    unended = λ _. unended;
    passed_on = passed_on;
    flushed = (λ other. h.sinks.out_unflushed, h.sinks.err_unflushed);
  }
