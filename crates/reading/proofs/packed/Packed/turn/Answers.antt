use Rattle.std.proofs.Common.{arith}
use Rattle.reading.proofs.SquareLaws.{turned_module}
use Rattle.reading.proofs.packed.Packed.turn.Goals as goal

pub returns : goal.returns
returns c = λ p packs. record {
  wide = packs.high;
  high = packs.wide;
  count = c.loop-y.invariant.count;
  modules = λ x y below.
      turned_module p c.args.self.now packs (c.loop-y.rows) x y below
      (c.loop-y.invariant.written x y (omega (arith, below, c.loop-y-test.false)));
}
