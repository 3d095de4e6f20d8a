use Rattle.std.proofs.Common.{◌≡◌, ◌<◌, ◌-◌, ◌^◌, ◌&&◌, ℕ}
use Rattle.std.specs.Prelude.{nat_lt}
use Rattle.qrmatrix.specs.Bits.{bit}
use Rattle.reading.proofs.squares.row_word.Given as goal

-- the columns so far are written, from the last one on
abbrev pub invariant-loop-place : goal.invariant-loop-place
invariant-loop-place g l = record {
  small : l.row < 2 ^ l.place;
  written : (i : ℕ) → bit l.row i
      ≡ (nat_lt i l.place && (g.G.Grid.picture l.modules).dark (l.width - 1 - (l.place - 1 - i)) l.y);
}
