use Rattle.std.proofs.Common.{◌≡◌, ◌<◌, ℕ, false, length}
use Rattle.std.proofs.Math.ListN.{get_or}
use Rattle.picture.specs.Text.{pbm_digit}
use Rattle.picture.proofs.pbm.digits.Given as goal

-- the digits so far
abbrev pub invariant-loop-i : goal.invariant-loop-i
invariant-loop-i l = record {
  whole : length l.text ≡ 80;
  so_far : (k : ℕ) → k < l.i → get_or l.text k 0 ≡ pbm_digit (get_or l.pixels k false);
}
