use Rattle.std.proofs.Common.{refl, ◌++◌, ◌≡◌, ◌+◌, ◌-◌, ◌*◌, ◌%◌, ◌∙◌, ℕ, arith, length-append, sym}
use Rattle.qrdata.specs.Private.BitsInCodewords.{bits_in}
use Rattle.qrmatrix.specs.Private.Placing.{row_of}
use Rattle.qrmatrix.specs.Square.{value_at}
use Rattle.qr_reading.specs.Private.Walking.{module_in, row_read, rows_read}
use Rattle.qr_reading.proofs.Laws.WalkedBitLaws.{next_pieces, pieces_have_room}
use Rattle.qr_reading.proofs.walk.push_strip.Goals as goal

pub push_rows-requires-clause-room : goal.push_rows-requires-clause-room
push_rows-requires-clause-room c =
    let strip = c.args.strip in
    let n = strip.side in
    let free = value_at c.args.free.now in
    let modules = module_in c.args.modules.now in
    let read = λ (t : ℕ). row_read free modules strip.x (row_of strip.side strip.number t) in
    let all = rows_read strip free modules 0 n in
    let begin = strip.number % 2 in
    let rows : begin - 0 ≡ begin = omega arith in
    let whole : n - 0 ≡ n = omega arith in
    rw rows (pieces_have_room read (bits_in c.args.bits.now) (bits_in c.args.bits.now ++ all) 0 begin n
    (omega (arith, c.requires.side)) (rw whole refl)
    (omega (arith, length-append (bits_in c.args.bits.now) all, c.requires.room)))

pub loop-block-init : goal.loop-block-init
loop-block-init c =
    let strip = c.args.strip in
    let n = strip.side in
    let free = value_at c.args.free.now in
    let modules = module_in c.args.modules.now in
    let read = λ (t : ℕ). row_read free modules strip.x (row_of strip.side strip.number t) in
    let begin = strip.number % 2 in
    let rows : begin - 0 ≡ begin = omega arith in
    let place : begin + 4 * 0 ≡ 0 + begin = omega arith in
    let whole : n - 0 ≡ n = omega arith in
    rw (c.push_rows.ensures, rows, place)
    (sym (rw whole at (next_pieces read (bits_in c.args.bits.now) 0 begin n (omega (arith, c.requires.side)))))

pub push_four-requires-clause-room : goal.push_four-requires-clause-room
push_four-requires-clause-room c =
    let strip = c.args.strip in
    let free = value_at c.args.free.now in
    let modules = module_in c.args.modules.now in
    let read = λ (t : ℕ). row_read free modules strip.x (row_of strip.side strip.number t) in
    let all = rows_read strip free modules 0 strip.side in
    pieces_have_room read (bits_in c.loop-block.bits) _ (strip.number % 2 + 4 * c.loop-block.block) 4 strip.side
    (omega (arith, c.loop-block-test.true, c.requires.side)) c.loop-block.invariant
    (omega (arith, length-append (bits_in c.args.bits.now) all, c.requires.room))

pub loop-block-preserved : goal.loop-block-preserved
loop-block-preserved c =
    let strip = c.args.strip in
    let free = value_at c.args.free.now in
    let modules = module_in c.args.modules.now in
    let read = λ (t : ℕ). row_read free modules strip.x (row_of strip.side strip.number t) in
    let begin = strip.number % 2 in
    let t = begin + 4 * c.loop-block.block in
    let next : begin + 4 * (c.loop-block.block + 1) ≡ t + 4 = omega arith in
    rw (c.push_four.ensures, next)
    (sym (next_pieces read (bits_in c.loop-block.bits) t 4 strip.side
    (omega (arith, c.loop-block-test.true, c.requires.side))) ∙ c.loop-block.invariant)

pub push_rows-requires-2-clause-room : goal.push_rows-requires-2-clause-room
push_rows-requires-2-clause-room c =
    let strip = c.args.strip in
    let free = value_at c.args.free.now in
    let modules = module_in c.args.modules.now in
    let read = λ (t : ℕ). row_read free modules strip.x (row_of strip.side strip.number t) in
    let all = rows_read strip free modules 0 strip.side in
    let n = strip.side in
    let t = strip.number % 2 + 4 * c.loop-block.block in
    let place : n - 1 + strip.number % 2 ≡ t =
    omega (arith, c.loop-block-test.false, c.loop-block.auto.block-end, c.requires.side) in
    rw place (pieces_have_room read (bits_in c.loop-block.bits) _ t (n - t) n
    (omega (arith, c.loop-block.auto.block-end, c.requires.side)) c.loop-block.invariant
    (omega (arith, length-append (bits_in c.args.bits.now) all, c.requires.room)))
