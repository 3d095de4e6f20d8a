use Rattle.std.proofs.Common.{◌≡◌, ◌<◌, ◌==◌, ℕ, false, length, not}
use Rattle.std.proofs.Math.ListN.{get_or}
use Rattle.picture.proofs.bits.are_some.Given as goal

-- whether each value so far is not 0
abbrev pub invariant-loop-j : goal.invariant-loop-j
invariant-loop-j l = record {
  whole : length l.some ≡ 64;
  so_far : (k : ℕ) → k < l.j → get_or l.some k false ≡ not (get_or l.values k 0 == 0);
}
