use Rattle.std.proofs.Common.{◌≡◌, ◌-◌, ◌^◌, ◌≤◌, ◌∙◌, ℕ, arith}
use Rattle.std.proofs.Math.Pow.{pow_mono}
use Rattle.reading.proofs.SquareLaws.{column_added, dark_as_number, no_bits, number_fits, whole_row}
use Rattle.reading.proofs.squares.row_word.Goals as goal

pub loop-place-init : goal.loop-place-init
loop-place-init g c = record {
  small = omega arith;
  written = λ i. no_bits i _;
}

pub loop-place-preserved : goal.loop-place-preserved
loop-place-preserved g c =
    let p = g.G.Grid.picture c.args.modules.now in
    let width = c.width-width.result in
    let line = λ (k : ℕ). p.dark (width - 1 - k) c.args.y in
    let was = c.loop-place.invariant in
    let number = dark_as_number c.dark.result c.from.result c.from.ensures in
    record {
      small = number_fits c.loop-place.row c.from.result c.loop-place.place was.small number.0;
      written = column_added line c.loop-place.row c.from.result c.loop-place.place number.0
          (number.1 ∙ c.dark.ensures) was.written;
    }

pub overflow_mul-row : goal.overflow_mul-row
overflow_mul-row g c =
    let few : c.loop-place.place ≤ 56 =
    omega (arith, c.loop-place-test.true, c.width-width.ensures, c.requires.wide) in
    let most : 2 ^ c.loop-place.place ≤ 2 ^ 56 = pow_mono few in
    omega (arith, c.loop-place.invariant.small, most)

pub returns : goal.returns
returns g c =
    let p = g.G.Grid.picture c.args.modules.now in
    let last : c.loop-place.place ≡ p.width =
    omega (arith, c.loop-place-test.false, c.loop-place.auto.place-end, c.width-width.ensures) in
    λ x. whole_row (λ x. p.dark x c.args.y) c.loop-place.row c.loop-place.place c.width-width.result p.width last
    c.width-width.ensures c.loop-place.invariant.written x
