use Rattle.std.proofs.Common.{◌≡◌, ℕ, List, [], arith, refl, sym, append-nil}
use Rattle.device.proofs.Laws.WritingLaws.{HasWritten-none, WritesText-whole}
use Rattle.picture.specs.Private.Rows.{row_text}
use Rattle.picture.specs.Text.{pixel_row}
use Rattle.picture.proofs.WritingLoopLaws.{below_more, HasWritten-below_more, WritesText-below_fails}
use Rattle.picture.proofs.wide_rows.write_wide_rows.Goals as goal

pub loop-y-init : goal.loop-y-init
loop-y-init g c = record { written = HasWritten-none g.S.Sink c.args.sink.now (g.met.S.Sink.took_none _) }

pub returns-in_err-write_wide_row : goal.returns-in_err-write_wide_row
returns-in_err-write_wide_row g c =
    let p = g.G.Grid.picture c.args.grid.now in
    let row : ℕ → List ℕ = λ y. row_text g.T.PixelText.text g.T.PixelText.row_end (pixel_row p y) in
    WritesText-below_fails g.S.Sink g.met.S.Sink.took_joined row _ _ _ c.loop-y.y _ _ (below_more row c.loop-y.y _ refl)
    c.loop-y.invariant.written p.height [] _ c.from_residual.result c.from_residual.ensures.0
    (omega (arith, c.height-y-end.ensures)) (sym (append-nil _)) c.in_err-write_wide_row.ensures

pub loop-y-preserved : goal.loop-y-preserved
loop-y-preserved g c =
    let p = g.G.Grid.picture c.args.grid.now in
    let row : ℕ → List ℕ = λ y. row_text g.T.PixelText.text g.T.PixelText.row_end (pixel_row p y) in
    record {
      written = HasWritten-below_more g.S.Sink g.met.S.Sink.took_joined row _ _ _ c.loop-y.y _ _
          (below_more row c.loop-y.y _ refl) c.loop-y.invariant.written c.in_ok-write_wide_row.ensures;
    }

pub returns : goal.returns
returns g c =
    let last : (g.G.Grid.picture c.args.grid.now).height ≡ c.loop-y.y = omega (arith, c.height-y-end.ensures) in
    rw last (WritesText-whole g.S.Sink _ _ _ tt c.loop-y.invariant.written)
