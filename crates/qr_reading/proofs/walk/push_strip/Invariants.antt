use Rattle.std.proofs.Common.{◌≡◌, ◌+◌, ◌-◌, ◌*◌, ◌++◌}
use Rattle.qrdata.specs.Private.BitsInCodewords.{bits_in}
use Rattle.qrmatrix.specs.Square.{value_at}
use Rattle.qr_reading.specs.Private.Walking.{module_in, rows_read}
use Rattle.qr_reading.proofs.walk.push_strip.Given as goal

-- what is written and what is to come are all the bits
abbrev pub invariant-loop-block : goal.invariant-loop-block
invariant-loop-block l =
    let read = rows_read l.strip (value_at l.free) (module_in l.modules) in
    let t = l.begin + 4 * l.block in
    bits_in l.bits ++ read t (l.strip.side - t) ≡ bits_in l.fn.bits ++ read 0 l.strip.side
