use Rattle.std.proofs.Common.{◌≡◌, ◌-◌, ◌++◌}
use Rattle.qrdata.specs.Private.BitsInCodewords.{bits_in}
use Rattle.qrmatrix.specs.Square.{value_at}
use Rattle.qr_reading.specs.Private.Walking.{module_in, rows_read}
use Rattle.qr_reading.proofs.walk.push_rows.Given as goal

-- what is written and what is to come are all the bits
abbrev pub invariant-loop-t : goal.invariant-loop-t
invariant-loop-t l =
    let read = rows_read l.strip (value_at l.free) (module_in l.modules) in
    bits_in l.bits ++ read l.t (l.end - l.t) ≡ bits_in l.fn.bits ++ read l.first (l.end - l.first)
