use Rattle.std.proofs.Common.{◌≡◌, ◌+◌, ◌-◌, ap, sym, ◌∙◌, arith, inl, inr}
use Rattle.std.proofs.lemmas.Bool.{cases_lt}
use Rattle.reading.proofs.found.first_dark.Goals as goal
use Rattle.reading.proofs.found.first_dark.Goals.{then-y-light+in_default, else-y-light}

pub loop-y-preserved : goal.loop-y-preserved
loop-y-preserved g c =
    let p = g.G.Grid.picture c.args.dots.now in
    let y = c.loop-y.y in
    let was = c.loop-y.invariant in
    elim c.if-y-light.branch [
      | then-y-light+in_default w ↦ record {
        most = omega (arith, w.light-is, w.equal_rows.ensures.some);
        light = λ x row wide early. elim (cases_lt row y) [
          | inl before ↦ was.light x row wide (omega (arith, before, was.most))
          | inr from ↦
              let place : y + (row - y) ≡ row = omega (arith, from) in
              ap (p.dark x) (sym place)
              ∙ w.equal_rows.ensures.equal x (row - y) wide (omega (arith, early, from, w.light-is))
              ∙ w.in_default.ensures x wide
        ];
      }
      | else-y-light w ↦ record {
        most = omega (arith, w.light-is, w.if-y-light.false);
        light = λ x row wide early. was.light x row wide (omega (arith, early, w.light-is));
      }
    ]
