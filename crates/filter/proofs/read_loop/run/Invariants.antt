use Rattle.filter.proofs.Laws.Words.{◌≡◌, ◌≤◌, List, ℕ, length, true}
use Rattle.filter.proofs.Laws.RunLaws.{HasRun}
use Rattle.filter.proofs.read_loop.run.Given as goal

-- the filter was fed what the source gave so far, each turn gave a byte or more, and nothing is buffered
abbrev pub invariant-loop-turn : goal.invariant-loop-turn
invariant-loop-turn g l = record {
  given : List ℕ;
  enough : l._turn ≤ length given;
  unended : g.S.Source.at_end l.source ≡ true → g.S.Source.at_end l.initial.source ≡ true;
  passed_on : g.O.Sink.buffers_nothing l.out;
  so_far : HasRun g.S.Source g.O.Sink g.E.Sink l.fn.options l.initial.source l.source l.fn.out l.out
      l.initial.err l.err l.filter given;
}
