use Rattle.std.proofs.Common.{◌≡◌, ◌+◌, ◌++◌, ◌∙◌, ℕ, Bool, List, [], append-nil, ap, refl, sym, arith, flat_map, take}
use Rattle.std.proofs.Common.{length, length-append, length-drop}
use Rattle.std.proofs.lemmas.List.{take_at}
use Rattle.std.proofs.lemmas.List.FromFn.{length-map-range_with_len}
use Rattle.device.proofs.Laws.WritingLaws.{HasWritten-none, WritesText-whole}
use Rattle.picture.specs.Picture.{AreEqualRows, Picture}
use Rattle.picture.specs.Private.Rows.{repeated, row_text}
use Rattle.picture.specs.Text.{below, pixel_row}
use Rattle.picture.proofs.Laws.GridLaws.{pixel_row-bits, pixel_row-equal}
use Rattle.picture.proofs.RepeatedLaws.{same_texts}
use Rattle.picture.proofs.Laws.WritingLaws.{flat_map-below_add}
use Rattle.picture.proofs.WritingLoopLaws.{below_more, HasWritten-below_more, WritesText-below_fails}
use Rattle.picture.proofs.kept_rows.write_kept_rows.Goals as goal

-- a row that was read is as long as the picture is wide
length-row : (p : Picture) (y : ℕ) (row : List Bool) → row ≡ pixel_row p y → length row ≡ p.width
length-row p y row read = ap length read ∙ length-map-range_with_len (λ x. p.dark x y) 0 p.width

-- the texts of the rows before y, and of the `count` rows from y on, which equal row y
rows_more : (text : List Bool → List ℕ) (p : Picture) (y count width : ℕ) (row rest : List Bool) → width ≡ p.width
    → row ≡ pixel_row p y → AreEqualRows p y count
    → flat_map (λ y. text (pixel_row p y)) (below y) ++ repeated count (text (take width (row ++ rest)))
    ≡ flat_map (λ y. text (pixel_row p y)) (below (y + count))
rows_more text p y count width row rest wide read equal =
    let f : ℕ → List ℕ = λ y. text (pixel_row p y) in
    rw (take_at row rest width (length-row p y row read ∙ sym wide), flat_map-below_add f y count)
    (ap (λ (t : List ℕ). flat_map f (below y) ++ t) (same_texts f (text row) 0 y count
    (λ k low high. ap text (read ∙ pixel_row-equal p y count k equal low high))))

pub loop-y-init : goal.loop-y-init
loop-y-init g c = record {
  inside = omega arith;
  size = refl;
  written = HasWritten-none g.S.Sink c.args.sink.now (g.met.S.Sink.took_none _);
}

pub returns-in_err-write_equal_rows-in_default : goal.returns-in_err-write_equal_rows-in_default
returns-in_err-write_equal_rows-in_default g c =
    let p = g.G.Grid.picture c.args.grid.now in
    let text = row_text g.T.PixelText.text g.T.PixelText.row_end in
    let y = c.loop-y.y in
    let n = c.equal_rows-count.result in
    WritesText-below_fails g.S.Sink g.met.S.Sink.took_joined (λ y. text (pixel_row p y)) _ _ _ y (y + n) _
    (rows_more text p y n _ _ _ c.width-width.ensures c.read_row.ensures c.equal_rows-count.ensures)
    c.loop-y.invariant.written p.height [] _ c.from_residual-in_err-write_equal_rows-in_default.result c.from_residual-in_err-write_equal_rows-in_default.ensures.0
    c.equal_rows-count.ensures.inside (sym (append-nil _)) c.in_err-write_equal_rows-in_default.ensures

pub returns-in_err-write_row_bits-in-Some : goal.returns-in_err-write_row_bits-in-Some
returns-in_err-write_row_bits-in-Some g c =
    let p = g.G.Grid.picture c.args.grid.now in
    let text = row_text g.T.PixelText.text g.T.PixelText.row_end in
    let y = c.loop-y.y in
    WritesText-below_fails g.S.Sink g.met.S.Sink.took_joined (λ y. text (pixel_row p y)) _ _ _ y (y + 1) _
    (below_more (λ y. text (pixel_row p y)) y _ (ap text (pixel_row-bits p y _ _ c.width-width.ensures c.in-Some.ensures)))
    c.loop-y.invariant.written p.height [] _ c.from_residual.result c.from_residual.ensures.0
    (omega (arith, c.height-height.ensures)) (sym (append-nil _)) c.in_err-write_row_bits-in-Some.ensures

pub loop-y-preserved-then-width-le-PIECE : goal.loop-y-preserved-then-width-le-PIECE
loop-y-preserved-then-width-le-PIECE g c =
    let p = g.G.Grid.picture c.args.grid.now in
    let text = row_text g.T.PixelText.text g.T.PixelText.row_end in
    let y = c.loop-y.y in
    record {
      inside = omega (arith, c.height-height.ensures);
      size = c.loop-y.invariant.size;
      written = HasWritten-below_more g.S.Sink g.met.S.Sink.took_joined (λ y. text (pixel_row p y)) _ _ _ y (y + 1) _
          (below_more (λ y. text (pixel_row p y)) y _ (ap text (pixel_row-bits p y _ _ c.width-width.ensures c.in-Some.ensures)))
          c.loop-y.invariant.written c.in_ok-write_row_bits-in-Some.ensures;
    }

pub loop-y-preserved : goal.loop-y-preserved
loop-y-preserved g c =
    let p = g.G.Grid.picture c.args.grid.now in
    let text = row_text g.T.PixelText.text g.T.PixelText.row_end in
    let y = c.loop-y.y in
    let n = c.equal_rows-count.result in
    let row = c.read_row.new.pixels in
    let long = length-row p y row c.read_row.ensures in
    record {
      inside = c.equal_rows-count.ensures.inside;
      size = omega (arith, long, length-append {A = Bool}, length-drop {A = Bool});
      written = HasWritten-below_more g.S.Sink g.met.S.Sink.took_joined (λ y. text (pixel_row p y)) _ _ _ y (y + n) _
          (rows_more text p y n _ _ _ c.width-width.ensures c.read_row.ensures c.equal_rows-count.ensures)
          c.loop-y.invariant.written c.in_ok-write_equal_rows-in_default.ensures;
    }

pub returns : goal.returns
returns g c =
    let last : (g.G.Grid.picture c.args.grid.now).height ≡ c.loop-y.y = omega (arith, c.height-height.ensures) in
    rw last (WritesText-whole g.S.Sink _ _ _ tt c.loop-y.invariant.written)
