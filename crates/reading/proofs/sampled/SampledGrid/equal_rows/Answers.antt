use Rattle.std.proofs.Common.{◌≡◌, ◌+◌, ◌-◌, ◌*◌, ◌/◌, ◌<◌, ◌≤◌, ◌∙◌, ap, arith}
use Rattle.std.proofs.Math.Nat.{le-div_iff_mul-le}
use Rattle.reading.proofs.Laws.CellLaws.{begins}
use Rattle.reading.proofs.sampled.SampledGrid.equal_rows.Goals as goal

pub returns : goal.returns
returns g c =
    let s = c.args.self.now in
    let p = g.G.Grid.picture s.dots.now in
    let y = c.args.y in
    record {
      some = omega (arith, c.min.ensures, c.height-2.ensures, c.requires);
      inside = omega (arith, c.min.ensures, c.height-2.ensures, c.requires);
      equal = λ x k wide more.
          let column = begins p.width s.scale (s.zone.left + x) s.some (omega (arith, wide)) in
          let few : k ≤ (c.equal_rows.result - 1) / s.scale = omega (arith, more, c.min.ensures) in
          let inside : k * s.scale < c.equal_rows.result =
          omega (arith, (le-div_iff_mul-le s.some).0 few, c.equal_rows.ensures.some) in
          let place : (s.zone.top + (y + k)) * s.scale ≡ c.first_dot-row.result + k * s.scale =
          omega (arith, c.first_dot-row.ensures.value) in
          ap (p.dark ((s.zone.left + x) * s.scale)) place
          ∙ c.equal_rows.ensures.equal ((s.zone.left + x) * s.scale) (k * s.scale) column inside
          ∙ ap (p.dark ((s.zone.left + x) * s.scale)) c.first_dot-row.ensures.value;
    }
