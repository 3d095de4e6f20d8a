use Rattle.std.proofs.Common.{◌≡◌, ◌+◌, ◌*◌, ◌≤◌, ◌++◌, length}
use Rattle.qrdata.specs.Bits.{bits_of}
use Rattle.qrdata.specs.Private.BitsInCodewords.{bits_in}
use Rattle.qrdata.specs.Segments.{byte_bits}
use Rattle.qrdata.proofs.bits.Bits.push_number.Given as goal

-- the codewords that are written and the bits to come are all the bits
abbrev pub invariant-loop-count : goal.invariant-loop-count
invariant-loop-count l = record {
  written : byte_bits l.self.codewords.items ++ bits_of l.count l.value ≡ bits_in l.fn.self ++ bits_of l.width l.number;
  few : l.count ≤ 23;
  room : 8 * length l.self.codewords.items + l.count ≤ 2775;
}

abbrev pub decreases-loop-count : goal.decreases-loop-count
decreases-loop-count l = l.count
