-- Calls one after another, in one script.
use Rattle.filter.proofs.Laws.Words.{◌≡◌, ℕ, List, [], ◌∷◌, ◌++◌, Result, Ok, Err, append_assoc, refl, ap, sym, subst, ◌∙◌}
use Rattle.filter.proofs.Laws.Words.{MatchResult, append-nil, Begins, RunValues, taken, Took, Stops, Sends, fault_of}
use Rattle.filter.proofs.Laws.Words.{other, Event, Channel, Images, Messages, bytes_for, sent, RunFault}
use Rattle.std.proofs.lemmas.Grind.{flat_map-append}

-- two sinks that took nothing
pub none_taken : (out err : List ℕ → Type 0) → out [] → err [] → (channel : Channel) → taken out err channel []
none_taken out err none_out none_err Images = none_out
none_taken out err none_out none_err Messages = none_err

-- where the sink of the images took a text, it took it in another sense too
pub images_by : (out out' err : List ℕ → Type 0) → ((bytes : List ℕ) → out bytes → out' bytes) → (channel : Channel)
    (bytes : List ℕ) → taken out err channel bytes → taken out' err channel bytes
images_by out out' err widen Images bytes h = widen bytes h
images_by out out' err widen Messages bytes h = h

module _ (run : RunValues) where
  -- the bytes of one event
  pub event_took : (out err : List ℕ → Type 0) (event : Event) → out (bytes_for run Images event)
      → err (bytes_for run Messages event) → Took run (taken out err) (event ∷ [])
  event_took out err event image message Images = subst out (sym (append-nil (bytes_for run Images event))) image
  event_took out err event image message Messages =
      subst err (sym (append-nil (bytes_for run Messages event))) message

  -- a beginning of the bytes of one event
  pub event_stops : (took : Channel → List ℕ → Type 0) (failed : Channel) (event : Event) (later : List Event)
      → Begins (took failed) (bytes_for run failed event) → took (other failed) []
      → Stops run took (event ∷ later) (fault_of failed)
  event_stops took failed event later begun none = record {
    failed = failed;
    fault_is = refl;
    done = [];
    event = event;
    later = later;
    cut = refl;
    own = begun;
    others = none;
  }

  -- a sink failed before it took a byte
  pub Stops-first : (took : Channel → List ℕ → Type 0) (failed : Channel) (event : Event) (later : List Event)
      → ((channel : Channel) → took channel []) → Stops run took (event ∷ later) (fault_of failed)
  Stops-first took failed event later none = event_stops took failed event later
      ([], (bytes_for run failed event, refl), none failed) (none (other failed))

  -- a call that sends nothing
  pub Sends-none : {T : Type 0} (x : T) {out err : List ℕ → Type 0} {before after : List Event} → after ≡ before
      → out [] → err [] → Sends {T = T} run (taken out err) before after (Ok x)
  Sends-none x {out} {err} {before} same none_out none_err = record {
    added = [];
    grown = same ∙ sym (append-nil before);
    sends = none_taken out err none_out none_err;
  }

  pub Stops-longer : {took : Channel → List ℕ → Type 0} {events : List Event} {fault : RunFault} (more : List Event)
      → Stops run took events fault → Stops run took (events ++ more) fault
  Stops-longer more s = record {
    failed = s.failed;
    fault_is = s.fault_is;
    done = s.done;
    event = s.event;
    later = s.later ++ more;
    cut = ap (λ (es : List Event). es ++ more) s.cut ∙ append_assoc s.done (s.event ∷ s.later) more;
    own = s.own;
    others = s.others;
  }

  -- a call that failed, in a longer script
  pub Sends-longer : {T U : Type 0} {took : Channel → List ℕ → Type 0} {before middle after : List Event}
      {fault : RunFault} (more : List Event) → after ≡ middle ++ more
      → Sends {T = T} run took before middle (Err fault) → Sends {T = U} run took before after (Err fault)
  Sends-longer {before = before} more cut s = record {
    added = s.added ++ more;
    grown = cut ∙ (ap (λ (es : List Event). es ++ more) s.grown ∙ append_assoc before s.added more);
    sends = Stops-longer more s.sends;
  }

  -- what took a text took it in another sense too
  module _ {took took' : Channel → List ℕ → Type 0}
      (widen : (channel : Channel) (bytes : List ℕ) → took channel bytes → took' channel bytes) where
    pub Took-by : (events : List Event) → Took run took events → Took run took' events
    Took-by events h = λ channel. widen channel (sent run channel events) (h channel)

-- calls one after another, at sinks whose states are O and E
module _ {O E : Type 0} {out : O → O → List ℕ → Type 0} {err : E → E → List ℕ → Type 0}
    (out_joined : (s t u : O) (xs ys : List ℕ) → out s t xs → out t u ys → out s u (xs ++ ys))
    (err_joined : (s t u : E) (xs ys : List ℕ) → err s t xs → err t u ys → err s u (xs ++ ys))
    (run : RunValues) where
  joined : (o o' o'' : O) (e e' e'' : E) (channel : Channel) (xs ys : List ℕ) → taken (out o o') (err e e') channel xs
      → taken (out o' o'') (err e' e'') channel ys → taken (out o o'') (err e e'') channel (xs ++ ys)
  joined o o' o'' e e' e'' Images xs ys first second = out_joined o o' o'' xs ys first second
  joined o o' o'' e e' e'' Messages xs ys first second = err_joined e e' e'' xs ys first second

  -- the events of both calls
  pub both : (o o' o'' : O) (e e' e'' : E) {T : Type 0} (xs ys : List Event) (r : Result T RunFault)
      → Took run (taken (out o o') (err e e')) xs
      → MatchResult r (λ _. Took run (taken (out o' o'') (err e' e'')) ys)
      (Stops run (taken (out o' o'') (err e' e'')) ys)
      → MatchResult r (λ _. Took run (taken (out o o'') (err e e'')) (xs ++ ys))
      (Stops run (taken (out o o'') (err e e'')) (xs ++ ys))
  both o o' o'' e e' e'' xs ys (Ok x) h k =
      λ channel. rw flat_map-append (joined o o' o'' e e' e'' channel _ _ (h channel) (k channel))
  both o o' o'' e e' e'' xs ys (Err fault) h s = record {
    failed = s.failed;
    fault_is = s.fault_is;
    done = xs ++ s.done;
    event = s.event;
    later = s.later;
    cut = ap (λ (es : List Event). xs ++ es) s.cut ∙ sym (append_assoc xs s.done (s.event ∷ s.later));
    own = (
      s.own.0,
      s.own.1,
      rw (flat_map-append, append_assoc) (joined o o' o'' e e' e'' s.failed _ _ (h s.failed) s.own.2),
    );
    others = rw flat_map-append (joined o o' o'' e e' e'' (other s.failed) _ _ (h (other s.failed)) s.others);
  }

  pub Sends-append : {o o' o'' : O} {e e' e'' : E} {T U : Type 0} {x : U} (r : Result T RunFault)
      {before middle after : List Event} → Sends {T = U} run (taken (out o o') (err e e')) before middle (Ok x)
      → Sends {T = T} run (taken (out o' o'') (err e' e'')) middle after r
      → Sends {T = T} run (taken (out o o'') (err e e'')) before after r
  Sends-append {o} {o'} {o''} {e} {e'} {e''} r {before} one two = record {
    added = one.added ++ two.added;
    grown = two.grown
        ∙ (ap (λ (es : List Event). es ++ two.added) one.grown ∙ append_assoc before one.added two.added);
    sends = both o o' o'' e e' e'' one.added two.added r one.sends two.sends;
  }
