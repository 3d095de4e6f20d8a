use Rattle.std.proofs.Common.{◌≡◌, ◌-◌, ◌*◌, ◌/◌, ◌++◌, slice_index}
use Rattle.std.specs.List.{flat_map, range_with_len}
use Rattle.qrdata.specs.Private.BitsInCodewords.{bits_in}
use Rattle.qrdata.specs.Versions.{side_of}
use Rattle.qrmatrix.specs.Bits.{bit}
use Rattle.qrmatrix.specs.Reading.{read_bits}
use Rattle.qrmatrix.specs.Square.{value_at}
use Rattle.qr_reading.specs.Private.Walking.{unmasked}
use Rattle.qr_reading.proofs.Laws.SymbolReadingLaws.{strip_read}
use Rattle.qr_reading.proofs.walk.read_codewords.Given as goal

-- what is written and what is to come are all the bits
abbrev pub invariant-loop-pair : goal.invariant-loop-pair
invariant-loop-pair l =
    let n = side_of l.fn.version in
    bits_in l.bits ++ flat_map (strip_read n (value_at l.free) (unmasked l.rows l.fn.mask))
    (range_with_len (2 * l.pair) ((n - 1) / 2 - 2 * l.pair))
    ≡ read_bits l.fn.version l.fn.mask (λ x y. bit (slice_index l.rows y) x)
