use Rattle.std.proofs.Common.{◌≡◌, ◌-◌, ◌++◌, List, ℕ}
use Rattle.std.specs.Prelude.{slice_range}
use Rattle.device.proofs.buffered.Buffered.drain.Given as goal

-- what was buffered is what was passed on, and the rest
abbrev pub invariant-loop-self : goal.invariant-loop-self
invariant-loop-self g l = record {
  front : List ℕ;
  cut : slice_range l.initial.self.bytes l.initial.self.start l.initial.self.end
      ≡ front ++ slice_range l.self.bytes l.self.start l.self.end;
  taken : g.S.Sink.took l.initial.self.sink l.self.sink front;
  uncounted : g.S.Sink.failures l.self.sink ≡ g.S.Sink.failures l.initial.self.sink;
  marked : l.self.is_flushed ≡ l.initial.self.is_flushed;
}

abbrev pub decreases-loop-self : goal.decreases-loop-self
decreases-loop-self g l = l.self.end - l.self.start
