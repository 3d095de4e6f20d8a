use Rattle.std.proofs.Common.{◌≡◌, ◌≤◌, ◌*◌, ◌++◌, List, ℕ, ap, refl, sym, arith, ◌∙◌, drop, length}
use Rattle.std.specs.Prelude.{Bool, false, slice_index_or}
use Rattle.std.proofs.lemmas.List.FromFn.{length-map-range_with_len}
use Rattle.picture.specs.Text.{pixel_row}
use Rattle.capi.proofs.BitLaws.{rows_more}
use Rattle.capi.proofs.RowLaws.{bytes_of_room, light_behind}
use Rattle.capi.specs.Bitmap.{byte_at, bytes_of, put_bit_rows, row_size}
use Rattle.capi.specs.Private.BitRows.{put_equal}
use Rattle.capi.proofs.bit_rows.put_rows.Goals as goal

pub loop-y-init : goal.loop-y-init
unfolding put_bit_rows
loop-y-init g c = record {
  inside = omega arith;
  dots = refl;
  light = λ x behind. c.requires.light x;
  row = refl;
  rows = refl;
}

pub loop-y-preserved : goal.loop-y-preserved
loop-y-preserved g c =
    let p = g.G.Grid.picture c.args.picture.now in
    let y = c.loop-y.y in
    let inv = c.loop-y.invariant in
    let n = c.equal_rows-count.result in
    let dots = c.read_dots.new.dots in
    let packed = c.pack.new.row in
    let pixels = pixel_row p y in
    let wide : length pixels ≡ p.width = length-map-range_with_len (λ x. p.dark x y) 0 p.width in
    let light : (x : ℕ) → length pixels ≤ x → slice_index_or c.loop-y.dots x false ≡ false =
    λ x behind. inv.light x (omega (arith, behind, wide)) in
    let room_is : dots ≡ pixels ++ drop (length pixels) c.loop-y.dots =
    c.read_dots.ensures ∙ ap (λ (w : ℕ). pixels ++ drop w c.loop-y.dots) (sym wide) in
    let packed_is : packed ≡ bytes_of pixels (row_size p) =
    c.pack.ensures ∙ (ap (λ (d : List Bool). bytes_of d (length c.loop-y.row)) room_is
    ∙ (bytes_of_room pixels c.loop-y.dots light (length c.loop-y.row)
    ∙ ap (λ (size : ℕ). bytes_of pixels size) (inv.row ∙ c.requires.size))) in
    record {
      inside = c.equal_rows-count.ensures.inside;
      dots = c.read_dots.auto.dots ∙ inv.dots;
      light = λ x behind. ap (λ (d : List Bool). slice_index_or d x false) room_is
          ∙ light_behind pixels c.loop-y.dots light x (omega (arith, behind, wide));
      row = ap length c.pack.ensures
          ∙ (length-map-range_with_len (λ j. byte_at dots (8 * j)) 0 (length c.loop-y.row) ∙ inv.row);
      rows = c.put_equal_rows.ensures ∙ (ap (λ (r : List ℕ). put_equal c.args.stride packed r y n) inv.rows
          ∙ rows_more p c.args.stride c.args.bits.now y n packed c.equal_rows-count.ensures packed_is n (omega arith));
    }
