use Rattle.std.proofs.Common.{◌≡◌, length}
use Rattle.capi.specs.Private.BitRows.{put_equal}
use Rattle.capi.proofs.bit_rows.put_equal_rows.Given as goal

-- the rows so far were put
abbrev pub invariant-loop-k : goal.invariant-loop-k
invariant-loop-k l = record {
  size : length l.bits ≡ length l.initial.bits;
  rows : l.bits ≡ put_equal l.stride l.row l.initial.bits l.y l.k;
}
