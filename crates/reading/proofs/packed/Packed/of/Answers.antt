use Rattle.std.proofs.Common.{◌∙◌, ◌&&◌, arith, sym}
use Rattle.std.specs.Prelude.{nat_lt}
use Rattle.std.proofs.lemmas.Grind.{common_steps}
use Rattle.reading.proofs.packed.Packed.of.Goals as goal

pub loop-y-preserved : goal.loop-y-preserved
loop-y-preserved g c = grind (arith, common_steps)

pub returns : goal.returns
returns g c =
    let p = g.G.Grid.picture c.args.modules.now in
    let wide = c.width-side.ensures in
    record {
      wide = sym wide;
      high = sym (c.if-side-height.false ∙ c.height.ensures);
      count = c.loop-y.invariant.count;
      modules = λ x y below.
          c.loop-y.invariant.written x y (omega (arith, below, c.loop-y-test.false))
          ∙ (λ i. nat_lt x (sym wide i) && p.dark x y);
    }
