use Rattle.std.proofs.Common.{◌≡◌, ◌+◌, ◌*◌, ◌==◌, get_or, ap, ◌∙◌, arith}
use Rattle.std.proofs.lemmas.Grind.{common_steps}
use Rattle.reading.proofs.dots.DotsGrid.equal_rows.Goals as goal

pub overflow_mul-place : goal.overflow_mul-place
overflow_mul-place c = grind (arith, common_steps)

pub equal_rows-requires-clause-inside : goal.equal_rows-requires-clause-inside
equal_rows-requires-clause-inside c = grind (arith, common_steps)

pub returns : goal.returns
returns c =
    let s = c.args.self.now in
    record {
      some = c.equal_rows.ensures.some;
      inside = omega (arith, c.equal_rows.ensures.most, c.requires);
      equal = λ x k wide more.
          let place : (c.args.y + k) * s.width + x ≡ c.args.y * s.width + k * s.width + x = omega arith in
          ap (λ byte. byte == s.dark) (ap (λ n. get_or s.bytes.now n 0) place ∙ c.equal_rows.ensures.equal k x more wide);
    }
