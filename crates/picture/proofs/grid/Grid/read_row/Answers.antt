use Rattle.std.proofs.Common.{false, arith}
use Rattle.std.proofs.lemmas.List.FromFn.{fill_by_all}
use Rattle.picture.proofs.grid.Grid.read_row.Goals as goal

pub returns : goal.returns
returns g c =
    let p = g.Self.Grid.picture c.args.self.now in
    fill_by_all (λ x. p.dark x c.args.y) c.loop-x.pixels p.width false (omega arith)
    (λ k h. c.loop-x.invariant k (omega arith))
