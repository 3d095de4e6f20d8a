use Rattle.filter.proofs.Laws.Words.{◌≡◌, List, ℕ, ◌++◌, Ok, length, Options, Feeds, FlushesNeither, IsAfter, taken}
use Rattle.filter.proofs.filter.Filter.feed.Given as goal

-- so far the filter was fed the first lines of the piece
abbrev pub invariant-loop-line : goal.invariant-loop-line
invariant-loop-line g l = record {
  fed : List ℕ;
  whole : l.piece ≡ fed ++ l.rest;
  feeds : (options : Options) (text : List ℕ) → IsAfter options l.initial.self text
      → Feeds {T = Unit {0}} options (taken (g.O.Sink.took l.initial.out l.out) (g.E.Sink.took l.initial.err l.err))
      l.self text (text ++ fed) (Ok tt);
  sinks : FlushesNeither {T = Unit {0}} g.O.Sink g.E.Sink l.initial.out l.out l.initial.err l.err (Ok tt);
}

abbrev pub decreases-loop-line : goal.decreases-loop-line
decreases-loop-line g l = length l.rest
