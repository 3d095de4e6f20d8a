use Rattle.std.proofs.Common.{◌∙◌, arith}
use Rattle.qrmatrix.specs.Private.Narrow.{narrow_at}
use Rattle.qrmatrix.specs.Square.{value_at}
use Rattle.qrmatrix.proofs.NarrowLaws.{penalty-same}
use Rattle.qrmatrix.proofs.penalty.penalty.Goals as goal

pub returns-then-side-le29-clause-value : goal.returns-then-side-le29-clause-value
returns-then-side-le29-clause-value c =
    c.rows_penalty.ensures.value
    ∙ penalty-same c.args.side (narrow_at c.narrow_rows.result) (value_at c.args.modules.now)
    (λ x y lx ly. c.narrow_rows.ensures x y (omega arith) (omega arith))
