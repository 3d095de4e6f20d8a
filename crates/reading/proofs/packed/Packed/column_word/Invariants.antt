use Rattle.reading.proofs.SquareLaws.{SeesColumn}
use Rattle.reading.proofs.packed.Packed.column_word.Given as goal

-- the rows so far are read, the last one lowest
abbrev pub invariant-loop-y : goal.invariant-loop-y
invariant-loop-y l = SeesColumn l.self.rows l.x l.y l.column
