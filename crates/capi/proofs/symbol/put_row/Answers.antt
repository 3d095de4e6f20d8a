use Rattle.std.proofs.Common.{◌≡◌, ◌∙◌, ◌++◌, Bool, List, ℕ, ap, arith, drop, length, map, sym, take}
use Rattle.std.proofs.Math.Seq.{take-append_seam}
use Rattle.std.proofs.lemmas.List.{length-take-le, take-append-le}
use Rattle.std.proofs.lemmas.List.FromFn.{length-map-range_with_len, take-map-range_with_len}
use Rattle.qrmatrix.specs.Bits.{bit}
use Rattle.picture.specs.Text.{below, pixel_row}
use Rattle.picture.proofs.Laws.GridLaws.{pixel_row-bits}
use Rattle.capi.proofs.symbol.put_row.Goals as goal

long_bits : (row : ℕ) → length (map (bit row) (below 64)) ≡ 64
long_bits row = length-map-range_with_len (bit row) 0 64

pub copy_from_slice-requires : goal.copy_from_slice-requires
copy_from_slice-requires g c =
    length-take-le 64 c.args.room.now (omega (arith, c.if-room-ge-BITS.true))
    ∙ sym (ap length c.bits_of.ensures ∙ long_bits c.in-Some.row)

-- the row is at the front of the bits that were put
pub returns-in-Some : goal.returns-in-Some
returns-in-Some g c =
    let p = g.G.Grid.picture c.args.grid.now in
    let row = c.in-Some.row in
    let width = c.width-width.result in
    let rest = drop 64 c.args.room.now in
    let bits = map (bit row) (below 64) in
    ap (λ (part : List Bool). take p.width (part ++ rest)) (c.copy_from_slice.ensures.after ∙ c.bits_of.ensures)
    ∙ ap (λ (n : ℕ). take n (bits ++ rest)) (sym c.width-width.ensures)
    ∙ take-append-le width bits rest (omega (arith, long_bits row))
    ∙ take-map-range_with_len (bit row) 0 64 width (omega arith)
    ∙ pixel_row-bits p c.args.y row width c.width-width.ensures c.in-Some.ensures

-- the row is what was put
pub returns-in_default : goal.returns-in_default
returns-in_default g c =
    let p = g.G.Grid.picture c.args.grid.now in
    let row = pixel_row p c.args.y in
    let rest = drop c.width-width.result c.args.room.now in
    let long : length row ≡ p.width = length-map-range_with_len (λ x. p.dark x c.args.y) 0 p.width in
    ap (λ (part : List Bool). take p.width (part ++ rest)) c.read_pixels.ensures
    ∙ ap (λ (n : ℕ). take n (row ++ rest)) (sym long)
    ∙ take-append_seam row rest
