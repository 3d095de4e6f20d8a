use Rattle.std.proofs.Common.{◌≡◌, ◌*◌, ◌∙◌, ℕ, Bool, false, map, drop, length, ap, arith}
use Rattle.std.specs.List.{range_with_len}
use Rattle.std.proofs.Math.ListN.{replicate}
use Rattle.std.proofs.lemmas.Grind.{elements}
use Rattle.std.proofs.lemmas.List.{length-take-le, take_at}
use Rattle.std.proofs.lemmas.List.FromFn.{length-map-range_with_len}
use Rattle.picture.proofs.Laws.WritingLaws.{piece_asked}
use Rattle.picture.proofs.wide_rows.write_wide_piece.Goals as goal

pub returns : goal.returns
returns g c =
    let p = g.G.Grid.picture c.args.grid.now in
    let dark : ℕ → Bool = λ x. p.dark x c.args.y in
    let n = c.min-len.result in
    let row = c.read_piece.new.pixels in
    let some = length-take-le n (replicate 80 false) (omega arith) in
    let asked : row ≡ map dark (range_with_len (70 * c.args.k) n) = rw some at c.read_piece.ensures in
    let size : length row ≡ n = ap length asked ∙ length-map-range_with_len dark (70 * c.args.k) n in
    rw (take_at row (drop n (replicate 80 false)) n size ∙ asked
    ∙ piece_asked dark p.width c.args.k n c.requires.in_width (omega (arith, c.width-width.ensures)))
    at c.write_piece.ensures

pub slice_bounds-write_piece-end : goal.slice_bounds-write_piece-end
slice_bounds-write_piece-end g c = grind (arith, elements)

pub write_piece-requires-clause-whole : goal.write_piece-requires-clause-whole
write_piece-requires-clause-whole g c = grind (arith, elements)

pub read_piece-requires-clause-in_width : goal.read_piece-requires-clause-in_width
read_piece-requires-clause-in_width g c =
    let some = length-take-le c.min-len.result (replicate 80 false) (omega arith) in
    omega (arith, some, c.width-width.ensures)

pub read_piece-requires-clause-fits : goal.read_piece-requires-clause-fits
read_piece-requires-clause-fits g c =
    let some = length-take-le c.min-len.result (replicate 80 false) (omega arith) in
    omega (arith, some, c.width-width.ensures)
