use Rattle.std.proofs.Common.{◌≡◌, ◌*◌, length, take}
use Rattle.qrdata.specs.Segments.{byte_bits}
use Rattle.qr_reading.proofs.bits.bits_of_codewords.Given as goal

-- the bits so far
abbrev pub invariant-loop-codeword : goal.invariant-loop-codeword
invariant-loop-codeword l = record {
  all : l.bits.items ≡ byte_bits (take l.codeword-index l.codewords);
  len : length l.bits.items ≡ 8 * l.codeword-index;
}
