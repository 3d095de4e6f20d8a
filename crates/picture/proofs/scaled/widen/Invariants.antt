use Rattle.std.proofs.Common.{◌≡◌, ◌+◌, ◌*◌, ◌<◌, ◌≤◌, ℕ, false}
use Rattle.std.proofs.Math.ListN.{get_or}
use Rattle.picture.proofs.scaled.widen.Given as goal

-- the pixels of the square so far, and those round them
abbrev pub invariant-loop-i : goal.invariant-loop-i
invariant-loop-i l = record {
  square : (k : ℕ) → l.x * l.scale ≤ k → k < l.x * l.scale + l.i → get_or l.pixels k false ≡ l.dark;
  before : (k : ℕ) → k < l.x * l.scale → get_or l.pixels k false ≡ get_or l.initial.pixels k false;
  after : (k : ℕ) → l.x * l.scale + l.i ≤ k → get_or l.pixels k false ≡ get_or l.initial.pixels k false;
}
