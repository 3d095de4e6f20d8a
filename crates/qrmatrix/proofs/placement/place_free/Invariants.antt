use Rattle.std.proofs.Common.{◌≡◌, ℕ, ◌+◌, ◌-◌, ◌*◌, ◌<◌, true, List, Bool}
use Rattle.qrmatrix.specs.Square.{value_at}
use Rattle.qrmatrix.specs.Private.Placing.{HasBits, MovesOn, row_of}
use Rattle.qrmatrix.proofs.placement.place_free.Given as goal

abbrev pub invariant-loop-j : goal.invariant-loop-j
invariant-loop-j l = record {
  has : (codewords : List ℕ) (i : ℕ) → HasBits 57 l.bits codewords i
      → HasBits (57 - 2 * l.j) l.rest codewords (i + 2 * l.j);
  placed : (free : List (List Bool)) → ((j : ℕ) → j < l.count
      → (value_at free l.strip.x (row_of l.strip.side l.strip.number (l.t + j)) ≡ true)
      × (value_at free (l.strip.x + 1) (row_of l.strip.side l.strip.number (l.t + j)) ≡ true))
      → (codewords : List ℕ) (i : ℕ) → HasBits 57 l.bits codewords i
      → MovesOn l.strip free codewords l.fn.modules l.modules i l.t (i + 2 * l.j) (l.t + l.j);
}
