use Rattle.std.proofs.Common.{◌≡◌, ℕ, ◌+◌, ◌*◌, ◌<◌}
use Rattle.std.specs.Prelude.{slice_index}
use Rattle.reading.proofs.equal_rows.equal_rows.Given as goal

-- the rows so far equal the first
abbrev pub invariant-loop-k : goal.invariant-loop-k
invariant-loop-k l = (k x : ℕ) → k < l.k → x < l.size
    → slice_index l.bytes (l.place + k * l.stride + x) ≡ slice_index l.bytes (l.place + x)
