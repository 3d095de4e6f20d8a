use Rattle.std.proofs.Common.{◌≡◌, ◌+◌, ◌*◌, ◌<◌, ◌≤◌, ℕ, List, length, take, ap, refl, arith, flat_map}
use Rattle.std.specs.Int.{div_ceil}
use Rattle.std.proofs.lemmas.List.{length-take-le}
use Rattle.device.proofs.Laws.WritingLaws.{HasWritten-none, WritesText-last}
use Rattle.picture.specs.Private.Rows.{piece, row_text}
use Rattle.picture.specs.Text.{below}
use Rattle.picture.proofs.Laws.WritingLaws.{piece_held}
use Rattle.picture.proofs.WritingLoopLaws.{below_more, HasWritten-below_more, WritesText-below_fails}
use Rattle.picture.proofs.kept_rows.write_row.Goals as goal

pub loop-k-init : goal.loop-k-init
loop-k-init g c = record {
  written = HasWritten-none g.S.Sink c.args.sink.now (g.met.S.Sink.took_none _);
  near = omega arith;
}

-- the number of pieces that are begun before a width
pieces : (width k : ℕ) → width ≤ 70 * k → 70 * k < width + 70 → div_ceil width 70 ≡ k
pieces width k past near = omega arith

more_pieces : (width k : ℕ) → 70 * k < width → k + 1 ≤ div_ceil width 70
more_pieces width k inside = omega arith

pub returns-in_err-write_piece : goal.returns-in_err-write_piece
returns-in_err-write_piece g c =
    let k = c.loop-k.k in
    let row = take c.args.width c.args.kept.now in
    let text : ℕ → List ℕ = λ k. g.T.PixelText.text (piece row k) in
    let size : length row ≡ c.args.width = length-take-le c.args.width c.args.kept.now (omega arith) in
    let held = piece_held c.args.kept.now c.args.width k c.min.result (omega arith) c.requires
    c.min.ensures in
    WritesText-below_fails g.S.Sink g.met.S.Sink.took_joined text _ _ _ k _ _
    (below_more text k _ (ap g.T.PixelText.text held)) c.loop-k.invariant.written (div_ceil (length row) 70)
    g.T.PixelText.row_end _ c.from_residual.result c.from_residual.ensures.0
    (rw size (more_pieces c.args.width k c.loop-k-test.true)) refl
    c.in_err-write_piece.ensures

pub loop-k-preserved : goal.loop-k-preserved
loop-k-preserved g c =
    let k = c.loop-k.k in
    let text : ℕ → List ℕ = λ k. g.T.PixelText.text (piece (take c.args.width c.args.kept.now) k) in
    let held = piece_held c.args.kept.now c.args.width k c.min.result (omega arith) c.requires
    c.min.ensures in
    record {
      written = HasWritten-below_more g.S.Sink g.met.S.Sink.took_joined text _ _ _ k _ _
          (below_more text k _ (ap g.T.PixelText.text held)) c.loop-k.invariant.written c.in_ok-write_piece.ensures;
      near = omega arith;
    }

pub returns : goal.returns
returns g c =
    let row = take c.args.width c.args.kept.now in
    let size : length row ≡ c.args.width = length-take-le c.args.width c.args.kept.now (omega arith) in
    let last : div_ceil (length row) 70 ≡ c.loop-k.k =
    rw size (pieces c.args.width c.loop-k.k (omega arith) c.loop-k.invariant.near) in
    WritesText-last g.S.Sink g.met.S.Sink.took_joined _ _ c.write_whole.new.sink
    (flat_map (λ k. g.T.PixelText.text (piece row k)) (below c.loop-k.k)) c.row_end.result.now
    (row_text g.T.PixelText.text g.T.PixelText.row_end row) _ (rw (last, c.row_end.ensures) refl)
    c.loop-k.invariant.written c.write_whole.ensures
