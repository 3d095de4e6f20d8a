use Rattle.std.proofs.Common.{◌∷◌, [], refl}
use Rattle.device.proofs.Laws.WritingLaws.{HasWritten-call, WritesText-begun, WritesText-last}
use Rattle.picture.specs.Text.{below}
use Rattle.picture.proofs.Laws.AsciiLaws.{ascii_pixels-ascii_text}
use Rattle.picture.proofs.Laws.WritingLaws.{ascii_rows}
use Rattle.picture.proofs.ascii.write_ascii.Goals as goal

pub returns-in_err-write_rows-clause-writes : goal.returns-in_err-write_rows-clause-writes
returns-in_err-write_rows-clause-writes g c =
    let p = g.G.Grid.picture c.args.grid.now in
    WritesText-begun g.S.Sink _ _ _ (10 ∷ []) _ c.from_residual.result c.from_residual.ensures.0
    (rw (ascii_rows p (below p.height)) refl) c.in_err-write_rows.ensures

pub returns-in_err-write_rows-clause-read : goal.returns-in_err-write_rows-clause-read
returns-in_err-write_rows-clause-read g c = ascii_pixels-ascii_text _

pub returns-clause-writes : goal.returns-clause-writes
returns-clause-writes g c =
    let p = g.G.Grid.picture c.args.grid.now in
    WritesText-last g.S.Sink g.met.S.Sink.took_joined _ _ _ _ (10 ∷ []) _ c.write_whole.result
    (rw (ascii_rows p (below p.height)) refl) (HasWritten-call g.S.Sink _ _ _ c.in_ok-write_rows.ensures)
    c.write_whole.ensures

pub returns-clause-read : goal.returns-clause-read
returns-clause-read g c some = ascii_pixels-ascii_text _ some
