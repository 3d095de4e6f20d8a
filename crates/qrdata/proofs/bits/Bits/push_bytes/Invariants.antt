use Rattle.std.proofs.Common.{◌≡◌, ◌+◌, ◌-◌, ◌*◌, ◌^◌, ◌<◌, ◌≤◌, ◌++◌, drop, length}
use Rattle.qrdata.specs.Bits.{bits_of}
use Rattle.qrdata.specs.Private.BitsInCodewords.{bits_in}
use Rattle.qrdata.specs.Segments.{byte_bits}
use Rattle.qrdata.proofs.bits.Bits.push_bytes.Given as goal

-- what is written and what is to come are all the bits, and there is room for them
abbrev pub invariant-loop-byte : goal.invariant-loop-byte
invariant-loop-byte l = record {
  written : (byte_bits l.self.codewords.items ++ bits_of l.count l.number) ++ byte_bits (drop l.byte-index l.bytes)
      ≡ bits_in l.fn.self ++ byte_bits l.bytes;
  small : l.number < 2 ^ l.count;
  room : 8 * length l.self.codewords.items + l.count + 8 * (length l.bytes - l.byte-index) ≤ 2775;
}
