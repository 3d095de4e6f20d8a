use Rattle.std.proofs.Common.{arith}
use Rattle.std.proofs.lemmas.Bool.Decides.{nat_tests}
use Rattle.qrmatrix.proofs.TwoBitsLaws.{ones_down, ones_up}
use Rattle.qrmatrix.proofs.placement.Strip.ones_from.Goals as goal
use Rattle.qrmatrix.proofs.placement.Strip.ones_from.Goals.{then-self-eq0, else-self-eq0}

pub returns-clause-ones : goal.returns-clause-ones
returns-clause-ones c =
    λ j l. elim c.if-self-eq0.branch [
      | then-self-eq0 w ↦
          let down = ones_down c.args.word c.args.self.side c.args.t j c.requires.side (omega arith) (omega arith)
          (omega (arith, w.ones-is)) in
          grind (arith, nat_tests, w.if-self-eq0.true, down)
      | else-self-eq0 w ↦
          let up = ones_up c.args.word c.args.t j c.ranges.word.fits (omega arith) (omega arith)
          (omega (arith, w.ones-is)) in
          grind (arith, nat_tests, w.if-self-eq0.false, up)
    ]
