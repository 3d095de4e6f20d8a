use Rattle.std.proofs.Common.{◌-◌, ◌∙◌, ℕ, arith, length-append, sym}
use Rattle.qrdata.specs.Private.BitsInCodewords.{bits_in}
use Rattle.qrmatrix.specs.Private.Placing.{row_of}
use Rattle.qrmatrix.specs.Square.{value_at}
use Rattle.qr_reading.specs.Private.Walking.{module_in, row_read, rows_read}
use Rattle.qr_reading.proofs.Laws.WalkedBitLaws.{has_room, next_walked}
use Rattle.qr_reading.proofs.walk.push_rows.Goals as goal

pub push_row-requires-clause-room : goal.push_row-requires-clause-room
push_row-requires-clause-room c =
    let strip = c.args.strip in
    let free = value_at c.args.free.now in
    let modules = module_in c.args.modules.now in
    let read = λ (t : ℕ). row_read free modules strip.x (row_of strip.side strip.number t) in
    let all = rows_read strip free modules c.args.first (c.args.end - c.args.first) in
    rw c.row.ensures.value
    (has_room read (bits_in c.loop-t.bits) _ c.loop-t.t c.args.end c.loop-t-test.true c.loop-t.invariant
    (omega (arith, length-append (bits_in c.args.bits.now) all, c.requires.room)))

pub loop-t-preserved : goal.loop-t-preserved
loop-t-preserved c =
    let strip = c.args.strip in
    let free = value_at c.args.free.now in
    let modules = module_in c.args.modules.now in
    let read = λ (t : ℕ). row_read free modules strip.x (row_of strip.side strip.number t) in
    rw (c.push_row.ensures, c.row.ensures.value)
    (sym (next_walked read (bits_in c.loop-t.bits) c.loop-t.t c.args.end c.loop-t-test.true) ∙ c.loop-t.invariant)
