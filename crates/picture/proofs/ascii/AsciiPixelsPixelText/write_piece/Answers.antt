use Rattle.std.proofs.Common.{◌/◌, sym, arith}
use Rattle.device.proofs.Laws.WritingLaws.{HasWritten-call, WritesText-begun, WritesText-last}
use Rattle.picture.proofs.LetterLaws.{ascii_halves}
use Rattle.picture.proofs.ascii.AsciiPixelsPixelText.write_piece.Goals as goal

pub returns-in_err-write_letters : goal.returns-in_err-write_letters
returns-in_err-write_letters g c =
    let halves = ascii_halves c.args.pixels.now (c.args.len / 2) c.args.len (omega arith) in
    WritesText-begun g.S.Sink _ _ _ _ _ c.from_residual.result c.from_residual.ensures.0 (sym halves)
    c.in_err-write_letters.ensures

pub returns : goal.returns
returns g c =
    let halves = ascii_halves c.args.pixels.now (c.args.len / 2) c.args.len (omega arith) in
    WritesText-last g.S.Sink g.met.S.Sink.took_joined _ _ _ _ _ _ c.write_letters-2.result halves
    (HasWritten-call g.S.Sink _ _ _ c.in_ok-write_letters.ensures) c.write_letters-2.ensures
