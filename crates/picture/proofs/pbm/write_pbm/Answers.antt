use Rattle.std.proofs.Common.{[], refl, arith, flat_map}
use Rattle.device.proofs.Laws.WritingLaws.{HasWritten-call, WritesText-begun, WritesText-last}
use Rattle.picture.specs.Private.Rows.{rows_text}
use Rattle.picture.specs.Text.{pbm_piece, pbm_row, below}
use Rattle.picture.proofs.Laws.PbmLaws.{read_back}
use Rattle.picture.proofs.Laws.WritingLaws.{pbm_rows}
use Rattle.picture.proofs.pbm.write_pbm.Goals as goal

pub returns-in_err-write_whole-clause-writes : goal.returns-in_err-write_whole-clause-writes
returns-in_err-write_whole-clause-writes g c =
    let p = g.G.Grid.picture c.args.grid.now in
    WritesText-begun g.S.Sink _ _ c.as_slice.result.now (flat_map (pbm_row p) (below p.height)) _
    c.from_residual.result c.from_residual.ensures.0
    (rw (c.as_slice.ensures.value, c.push_header.ensures, c.width.ensures, c.height.ensures) refl)
    c.in_err-write_whole.ensures

pub returns-clause-writes : goal.returns-clause-writes
returns-clause-writes g c =
    let p = g.G.Grid.picture c.args.grid.now in
    WritesText-last g.S.Sink g.met.S.Sink.took_joined _ _ _ c.as_slice.result.now (rows_text pbm_piece [] p) _
    c.write_rows.result (rw (
      c.as_slice.ensures.value,
      c.push_header.ensures,
      c.width.ensures,
      c.height.ensures,
      pbm_rows p (below p.height),
    ) refl) (HasWritten-call g.S.Sink _ _ _ c.in_ok-write_whole.ensures) c.write_rows.ensures

pub returns-in_err-write_whole-clause-read : goal.returns-in_err-write_whole-clause-read
returns-in_err-write_whole-clause-read g c some =
    read_back _ c.width.result c.height.result some c.width.ensures (omega arith) c.height.ensures (omega arith)

pub returns-clause-read : goal.returns-clause-read
returns-clause-read g c some =
    read_back _ c.width.result c.height.result some c.width.ensures (omega arith) c.height.ensures (omega arith)
