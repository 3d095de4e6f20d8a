use Rattle.std.proofs.Common.{sym}
use Rattle.device.proofs.Laws.WritingLaws.{HasWritten-call, WritesText-begun, WritesText-last}
use Rattle.picture.proofs.Laws.WritingLaws.{row_text-of_bits}
use Rattle.picture.proofs.kept_rows.write_row_bits.Goals as goal

pub returns-in_err-write_piece : goal.returns-in_err-write_piece
returns-in_err-write_piece g c =
    WritesText-begun g.S.Sink _ _ _ g.T.PixelText.row_end _ c.from_residual.result c.from_residual.ensures.0
    (sym (row_text-of_bits g.T.PixelText.text g.T.PixelText.row_end c.args.row c.args.width c.pixels_of.result
    c.pixels_of.ensures c.requires.0 c.requires.1)) c.in_err-write_piece.ensures

pub returns : goal.returns
returns g c =
    WritesText-last g.S.Sink g.met.S.Sink.took_joined _ _ _ _ _ _ c.write_whole.result
    (rw c.row_end.ensures (row_text-of_bits g.T.PixelText.text g.T.PixelText.row_end c.args.row c.args.width
    c.pixels_of.result c.pixels_of.ensures c.requires.0 c.requires.1))
    (HasWritten-call g.S.Sink _ _ _ c.in_ok-write_piece.ensures) c.write_whole.ensures
