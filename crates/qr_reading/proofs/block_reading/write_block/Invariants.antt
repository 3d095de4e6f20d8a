use Rattle.std.proofs.Common.{◌≡◌, length, map}
use Rattle.std.specs.Prelude.{slice_index}
use Rattle.std.specs.List.{range_with_len}
use Rattle.qrdata.specs.Reading.{interleaving_place}
use Rattle.qr_reading.proofs.block_reading.write_block.Given as goal

-- the codewords so far
abbrev pub invariant-loop-place : goal.invariant-loop-place
invariant-loop-place l = record {
  all : l.out.items
      ≡ map (λ i. slice_index l.codewords (interleaving_place l.lengths l.block i)) (range_with_len 0 l.place);
  count : length l.out.items ≡ l.place;
}
