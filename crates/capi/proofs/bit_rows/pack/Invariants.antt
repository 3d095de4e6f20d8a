use Rattle.std.proofs.Common.{◌≡◌, ◌<◌, ◌*◌, ℕ, length}
use Rattle.std.proofs.Math.ListN.{get_or}
use Rattle.capi.specs.Bitmap.{byte_at}
use Rattle.capi.proofs.bit_rows.pack.Given as goal

-- the bytes so far
abbrev pub invariant-loop-j : goal.invariant-loop-j
invariant-loop-j l = record {
  size : length l.row ≡ length l.initial.row;
  so_far : (k : ℕ) → k < l.j → get_or l.row k 0 ≡ byte_at l.dots (8 * k);
}
