use Rattle.std.proofs.Common.{◌≡◌, ◌*◌, ◌/◌, ◌<◌, ◌≤◌, ℕ, false, length}
use Rattle.std.proofs.Math.ListN.{get_or}
use Rattle.picture.proofs.scaled.widen_each.Given as goal

-- the squares so far, and the pixels that are still to be read
abbrev pub invariant-loop-x : goal.invariant-loop-x
invariant-loop-x l = record {
  size : length l.pixels ≡ length l.initial.pixels;
  done : (k : ℕ) → l.x * l.scale ≤ k → k < length l.pixels
      → get_or l.pixels k false ≡ get_or l.initial.pixels (k / l.scale) false;
  rest : (k : ℕ) → k < l.x * l.scale → get_or l.pixels k false ≡ get_or l.initial.pixels k false;
}
