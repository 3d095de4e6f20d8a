use Rattle.std.proofs.Common.{◌≡◌, ℕ, List, length, refl, arith}
use Rattle.std.specs.Int.{div_ceil}
use Rattle.std.proofs.lemmas.List.FromFn.{length-map-range_with_len}
use Rattle.device.proofs.Laws.WritingLaws.{HasWritten-none, WritesText-last}
use Rattle.picture.specs.Private.Rows.{piece}
use Rattle.picture.specs.Text.{pixel_row}
use Rattle.picture.proofs.WritingLoopLaws.{below_more, HasWritten-below_more, WritesText-below_fails}
use Rattle.picture.proofs.wide_rows.write_wide_row.Goals as goal

pub loop-k-init : goal.loop-k-init
loop-k-init g c = record { written = HasWritten-none g.S.Sink c.args.sink.now (g.met.S.Sink.took_none _) }

pub returns-in_err-write_wide_piece : goal.returns-in_err-write_wide_piece
returns-in_err-write_wide_piece g c =
    let p = g.G.Grid.picture c.args.grid.now in
    let row = pixel_row p c.args.y in
    let text : ℕ → List ℕ = λ k. g.T.PixelText.text (piece row k) in
    let size : length row ≡ p.width = length-map-range_with_len (λ x. p.dark x c.args.y) 0 p.width in
    WritesText-below_fails g.S.Sink g.met.S.Sink.took_joined text _ _ _ c.loop-k.k _ _
    (below_more text c.loop-k.k _ refl)
    c.loop-k.invariant.written (div_ceil (length row) 70) g.T.PixelText.row_end _ c.from_residual.result
    c.from_residual.ensures.0 (omega (arith, c.width.ensures)) refl c.in_err-write_wide_piece.ensures

pub loop-k-preserved : goal.loop-k-preserved
loop-k-preserved g c =
    let row = pixel_row (g.G.Grid.picture c.args.grid.now) c.args.y in
    let text : ℕ → List ℕ = λ k. g.T.PixelText.text (piece row k) in
    record {
      written = HasWritten-below_more g.S.Sink g.met.S.Sink.took_joined text _ _ _ c.loop-k.k _ _
          (below_more text c.loop-k.k _ refl) c.loop-k.invariant.written c.in_ok-write_wide_piece.ensures;
    }

pub returns : goal.returns
returns g c =
    let p = g.G.Grid.picture c.args.grid.now in
    let row = pixel_row p c.args.y in
    let size : length row ≡ p.width = length-map-range_with_len (λ x. p.dark x c.args.y) 0 p.width in
    let last : div_ceil (length row) 70 ≡ c.loop-k.k = omega (arith, c.width.ensures) in
    WritesText-last g.S.Sink g.met.S.Sink.took_joined _ _ _ _ c.row_end.result.now _ c.write_whole.result
    (rw (last, c.row_end.ensures) refl) c.loop-k.invariant.written c.write_whole.ensures
