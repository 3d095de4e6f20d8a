use Rattle.std.proofs.Common.{◌++◌, ◌∙◌, arith, take, subst}
use Rattle.std.specs.Prelude.{slice_range}
use Rattle.std.proofs.lemmas.List.{append-nil}
use Rattle.std.proofs.lemmas.Result.{MatchResult-from_err}
use Rattle.device.specs.Device.{Rises}
use Rattle.device.proofs.PassingLaws.{cut_buffered}
use Rattle.device.proofs.buffered.Buffered.drain.Goals as goal

pub returns-in_err-count-clause-passes : goal.returns-in_err-count-clause-passes
returns-in_err-count-clause-passes g c =
    let h = c.loop-self.invariant in
    let e = c.in_err-count.ensures in
    let old = c.args.self.now in
    record {
      bytes = record {
        sent = h.front;
        taken = subst (g.S.Sink.took old.sink c.write.new.self) (append-nil h.front)
            (g.met.S.Sink.took_joined _ _ _ _ _ h.taken e.bytes);
        cut = append-nil (slice_range old.bytes old.start old.end) ∙ h.cut;
      };
      count = MatchResult-from_err c.from_residual.result _ _ c.from_residual.ensures.0
          (λ _. subst (λ n. Rises n (g.S.Sink.failures c.write.new.self)) h.uncounted e.count);
      flushed = h.marked;
      buffered = grind (arith, c.from_residual.ensures.0);
    }

pub loop-self-preserved : goal.loop-self-preserved
loop-self-preserved g c =
    let h = c.loop-self.invariant in
    let old = c.args.self.now in
    let s = c.loop-self.self in
    let n = c.in_ok-count.count in
    record {
      front = h.front ++ take n (slice_range s.bytes s.start s.end);
      cut = cut_buffered (slice_range old.bytes old.start old.end) h.front s.bytes s.start s.end n h.cut;
      taken = g.met.S.Sink.took_joined _ _ _ _ _ h.taken c.in_ok-count.ensures.bytes;
      uncounted = c.in_ok-count.ensures.count ∙ h.uncounted;
      marked = h.marked;
    }
