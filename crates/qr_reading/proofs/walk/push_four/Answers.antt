use Rattle.std.proofs.Common.{◌∙◌, ◌++◌, ap, arith, length}
use Rattle.qrdata.specs.Private.BitsInCodewords.{bits_in}
use Rattle.qrdata.proofs.Laws.BitStringLaws.{length-bits_of}
use Rattle.qrmatrix.specs.Square.{value_at}
use Rattle.qr_reading.proofs.walk.push_four.Goals as goal

pub push_number-requires-clause-room : goal.push_number-requires-clause-room
push_number-requires-clause-room c =
    let bits = c.four_rows.ensures (value_at c.args.free.now) (c.are_four_free.ensures c.if-are_four_free.true c.args.free.now
    c.requires.fours) in
    omega (arith, ap length bits, length-bits_of 8 c.four_rows.result, c.requires.room)

pub returns-then-are_four_free : goal.returns-then-are_four_free
returns-then-are_four_free c =
    let bits = c.four_rows.ensures (value_at c.args.free.now) (c.are_four_free.ensures c.if-are_four_free.true c.args.free.now
    c.requires.fours) in
    c.push_number.ensures ∙ ap (λ l. bits_in c.args.bits.now ++ l) bits
