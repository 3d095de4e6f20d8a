use Rattle.std.proofs.Common.{◌≡◌, List, ℕ, ◌++◌, length}
use Rattle.device.proofs.Laws.WritingLaws.{HasWritten}
use Rattle.device.proofs.write.write_whole.Given as goal

-- the bytes are those that were written, and the rest
abbrev pub invariant-loop-rest : goal.invariant-loop-rest
invariant-loop-rest g l = record {
  front : List ℕ;
  cut : l.bytes ≡ front ++ l.rest;
  written : HasWritten g.S.Sink l.initial.sink l.sink front;
}

abbrev pub decreases-loop-rest : goal.decreases-loop-rest
decreases-loop-rest g l = length l.rest
