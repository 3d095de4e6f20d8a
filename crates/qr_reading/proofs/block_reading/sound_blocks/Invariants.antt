use Rattle.std.proofs.Common.{◌≡◌, ◌+◌, ◌-◌, drop, length, sum}
use Rattle.qr_reading.specs.Private.Blocks.{sound_blocks}
use Rattle.qr_reading.proofs.DeinterleavingLaws.{with_blocks}
use Rattle.qr_reading.proofs.block_reading.sound_blocks.Given as goal

abbrev pub invariant-loop-block : goal.invariant-loop-block
invariant-loop-block l = record {
  all : with_blocks l.count l.lengths l.ec_lengths l.codewords l.ec_codewords l.message.items l.block
      (length l.lengths - l.block) ≡ sound_blocks l.count l.lengths l.ec_lengths l.codewords l.ec_codewords;
  room : length l.message.items + sum (drop l.block l.lengths) ≡ sum l.lengths;
}
