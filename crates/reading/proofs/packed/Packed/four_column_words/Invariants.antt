use Rattle.std.proofs.Common.{◌+◌}
use Rattle.reading.proofs.SquareLaws.{SeesColumn}
use Rattle.reading.proofs.packed.Packed.four_column_words.Given as goal

-- the rows so far are read, the last one lowest
abbrev pub invariant-loop-y : goal.invariant-loop-y
invariant-loop-y l = record {
  first : SeesColumn l.self.rows l.x l.y l.first;
  second : SeesColumn l.self.rows (l.x + 1) l.y l.second;
  third : SeesColumn l.self.rows (l.x + 2) l.y l.third;
  fourth : SeesColumn l.self.rows (l.x + 3) l.y l.fourth;
}
