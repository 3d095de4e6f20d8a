use Rattle.std.proofs.Common.{subst, List, ℕ, [], ◌++◌, ◌∙◌, arith, refl}
use Rattle.std.proofs.lemmas.List.{append-nil}
use Rattle.std.proofs.lemmas.Result.{MatchResult-from_err}
use Rattle.device.specs.Device.{Rises}
use Rattle.device.specs.Passing.{PassesOn}
use Rattle.device.proofs.buffered.BufferedSink.flush.Goals as goal

-- what was passed on, before a device that took no byte
-- drain and flush, the two calls, have three states, and `took` with its law `joined` are the sink's
passed : {S : Type 0} (took : S → S → List ℕ → Type 0) (s t u : S) (old new : List ℕ)
    → ((xs ys : List ℕ) → took s t xs → took t u ys → took s u (xs ++ ys))
    → PassesOn took s t old new [] → took t u [] → PassesOn took s u old new []
passed took s t u old new joined h none =
    record { sent = h.sent; taken = subst (took s u) (append-nil h.sent) (joined _ _ h.taken none); cut = h.cut }

pub returns-in_err-flush-clause-flushes : goal.returns-in_err-flush-clause-flushes
returns-in_err-flush-clause-flushes g c = record {
  bytes = passed g.S.Sink.took _ _ _ _ _ (g.met.S.Sink.took_joined _ _ _) c.in_ok-drain.ensures.passes.bytes
      c.flush.ensures.bytes;
  count = MatchResult-from_err c.from_residual-in_err-flush.result _ _ c.from_residual-in_err-flush.ensures.0
      (λ _. subst (λ n. Rises n (g.S.Sink.failures c.flush.new.self)) c.in_ok-drain.ensures.passes.count
      c.in_err-flush.ensures.count);
  flushed = MatchResult-from_err c.from_residual-in_err-flush.result _ _ c.from_residual-in_err-flush.ensures.0
      (λ _. c.in_ok-drain.ensures.passes.flushed);
  buffered = grind (arith, c.from_residual-in_err-flush.ensures.0);
}

pub returns-clause-flushes : goal.returns-clause-flushes
returns-clause-flushes g c = record {
  bytes = passed g.S.Sink.took _ _ _ _ _ (g.met.S.Sink.took_joined _ _ _) c.in_ok-drain.ensures.passes.bytes
      c.flush.ensures.bytes;
  count = c.in_ok-flush.ensures.count ∙ c.in_ok-drain.ensures.passes.count;
  flushed = refl;
  buffered = c.in_ok-drain.ensures.passes.buffered;
}
