use Rattle.qrmatrix.specs.Private.FunctionRows.{function_row}
use Rattle.qrmatrix.proofs.Laws.FunctionRowLaws.{function_row_is}
use Rattle.qrmatrix.proofs.function.function_row.Goals as goal

pub returns : goal.returns
unfolding function_row
returns c =
    rw (c.from-place.ensures, c.number.ensures.value)
    (function_row_is c.args.version c.number.ensures.known.0 c.number.ensures.known.1 c.args.y c.requires)
