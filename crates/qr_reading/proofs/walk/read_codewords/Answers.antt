use Rattle.std.proofs.Common.{◌≡◌, ◌<◌, ◌++◌, ◌+◌, ◌-◌, ◌*◌, ◌/◌, ◌∙◌, append-nil, arith, slice_index, sym}
use Rattle.qrdata.specs.Private.BitsInCodewords.{bits_in}
use Rattle.qrdata.specs.Versions.{side_of}
use Rattle.qrmatrix.specs.Bits.{bit}
use Rattle.qrmatrix.specs.Square.{value_at}
use Rattle.qr_reading.specs.Private.Walking.{unmasked}
use Rattle.qr_reading.proofs.Laws.SymbolReadingLaws.{bits_fit, codewords_read, strip_is, strip_read, walk_read}
use Rattle.qr_reading.proofs.Laws.WalkedBitLaws.{has_room, next_walked}
use Rattle.qr_reading.proofs.walk.read_codewords.Goals as goal

pub loop-pair-init : goal.loop-pair-init
loop-pair-init c =
    let n = side_of c.args.version in
    let known = c.side-side.ensures.known in
    let whole : (n - 1) / 2 - 2 * 0 ≡ (n - 1) / 2 = omega arith in
    let none : 2 * 0 ≡ 0 = omega arith in
    rw (whole, c.new-bits.ensures)
    (walk_read c.args.version known.0 known.1 c.args.mask c.args.free.now
    (λ x y. bit (slice_index c.args.rows.now y) x) c.requires.free)

pub push_strip-requires-clause-room : goal.push_strip-requires-clause-room
push_strip-requires-clause-room c =
    let v = c.args.version in
    let n = side_of v in
    let rows = c.args.rows.now in
    let free = value_at c.args.free.now in
    let known = c.side-side.ensures.known in
    let up = strip_is v c.new.result free c.write_unmasked.new.modules rows c.args.mask (2 * c.loop-pair.pair)
    (c.new.ensures.strip v known.0 known.1 c.side-side.ensures.value) c.new.ensures.number c.write_unmasked.ensures
    c.requires.side in
    rw up (has_room (strip_read n free (unmasked rows c.args.mask)) (bits_in c.loop-pair.bits) _ (2 * c.loop-pair.pair)
    ((n - 1) / 2) (omega (arith, rw c.side-side.ensures.value at c.loop-pair-test.true)) c.loop-pair.invariant
    (bits_fit v known.0 known.1 c.args.mask (λ x y. bit (slice_index rows y) x)))

pub push_strip-requires-in-loop-pair-clause-room : goal.push_strip-requires-in-loop-pair-clause-room
push_strip-requires-in-loop-pair-clause-room c =
    let v = c.args.version in
    let n = side_of v in
    let rows = c.args.rows.now in
    let free = value_at c.args.free.now in
    let known = c.side-side.ensures.known in
    let k = 2 * c.loop-pair.pair in
    let read = strip_read n free (unmasked rows c.args.mask) in
    let up = strip_is v c.new.result free c.write_unmasked.new.modules rows c.args.mask k
    (c.new.ensures.strip v known.0 known.1 c.side-side.ensures.value) c.new.ensures.number c.write_unmasked.ensures
    c.requires.side in
    let down = strip_is v c.new-in-loop-pair.result free c.write_unmasked.new.modules rows c.args.mask (k + 1)
    (c.new-in-loop-pair.ensures.strip v known.0 known.1 c.side-side.ensures.value) c.new-in-loop-pair.ensures.number
    c.write_unmasked.ensures c.requires.side in
    let more : k + 1 < (n - 1) / 2 = omega (arith, rw c.side-side.ensures.value at c.loop-pair-test.true) in
    let next = sym (next_walked read (bits_in c.loop-pair.bits) k ((n - 1) / 2) (omega (arith, more)))
    ∙ c.loop-pair.invariant in
    rw (c.push_strip.ensures, up, down) (has_room read (bits_in c.loop-pair.bits ++ read k) _ (k + 1) ((n - 1) / 2) more next
    (bits_fit v known.0 known.1 c.args.mask (λ x y. bit (slice_index rows y) x)))

pub loop-pair-preserved : goal.loop-pair-preserved
loop-pair-preserved c =
    let v = c.args.version in
    let n = side_of v in
    let rows = c.args.rows.now in
    let free = value_at c.args.free.now in
    let known = c.side-side.ensures.known in
    let k = 2 * c.loop-pair.pair in
    let read = strip_read n free (unmasked rows c.args.mask) in
    let up = strip_is v c.new.result free c.write_unmasked.new.modules rows c.args.mask k
    (c.new.ensures.strip v known.0 known.1 c.side-side.ensures.value) c.new.ensures.number c.write_unmasked.ensures
    c.requires.side in
    let down = strip_is v c.new-in-loop-pair.result free c.write_unmasked.new.modules rows c.args.mask (k + 1)
    (c.new-in-loop-pair.ensures.strip v known.0 known.1 c.side-side.ensures.value) c.new-in-loop-pair.ensures.number
    c.write_unmasked.ensures c.requires.side in
    let more : k + 1 < (n - 1) / 2 = omega (arith, rw c.side-side.ensures.value at c.loop-pair-test.true) in
    let next = sym (next_walked read (bits_in c.loop-pair.bits) k ((n - 1) / 2) (omega (arith, more)))
    ∙ c.loop-pair.invariant in
    let later : 2 * (c.loop-pair.pair + 1) ≡ k + 1 + 1 = omega arith in
    rw (c.push_strip-in-loop-pair.ensures, c.push_strip.ensures, up, down, later)
    (sym (next_walked read (bits_in c.loop-pair.bits ++ read k) (k + 1) ((n - 1) / 2) more) ∙ next)

pub returns : goal.returns
returns c =
    let n = side_of c.args.version in
    let known = c.side-side.ensures.known in
    let none : (n - 1) / 2 - 2 * c.loop-pair.pair ≡ 0 =
    omega (arith, rw c.side-side.ensures.value at c.loop-pair-test.false) in
    codewords_read c.args.version known.0 known.1 c.args.mask (λ x y. bit (slice_index c.args.rows.now y) x)
    c.loop-pair.bits (rw (none, append-nil) at c.loop-pair.invariant) (rw c.deref.ensures.0 at c.are_bytes.ensures)
