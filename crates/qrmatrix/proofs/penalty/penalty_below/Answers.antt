use Rattle.std.proofs.Common.{◌≡◌, ◌≤◌, arith, subst}
use Rattle.std.specs.Prelude.{IfNone, IfSome}
use Rattle.qrmatrix.specs.Private.Narrow.{narrow_at}
use Rattle.qrmatrix.specs.Square.{value_at}
use Rattle.qrmatrix.proofs.NarrowLaws.{penalty-same}
use Rattle.qrmatrix.proofs.penalty.penalty_below.Goals as goal

pub returns-then-side-le29-clause-value : goal.returns-then-side-le29-clause-value
returns-then-side-le29-clause-value c =
    subst (λ p. IfSome c.rows_penalty_below.result (λ found. found ≡ p))
    (penalty-same c.args.side (narrow_at c.narrow_rows.result) (value_at c.args.modules.now)
    (λ x y lx ly. c.narrow_rows.ensures x y (omega arith) (omega arith)))
    c.rows_penalty_below.ensures.value

pub returns-then-side-le29-clause-reached : goal.returns-then-side-le29-clause-reached
returns-then-side-le29-clause-reached c =
    subst (λ p. IfNone c.rows_penalty_below.result (c.args.limit ≤ p))
    (penalty-same c.args.side (narrow_at c.narrow_rows.result) (value_at c.args.modules.now)
    (λ x y lx ly. c.narrow_rows.ensures x y (omega arith) (omega arith)))
    c.rows_penalty_below.ensures.reached
