use Rattle.std.proofs.Common.{arith}
use Rattle.picture.proofs.kept_rows.rows_at_once.Goals as goal

pub returns-clause-most : goal.returns-clause-most
returns-clause-most c = grind arith
