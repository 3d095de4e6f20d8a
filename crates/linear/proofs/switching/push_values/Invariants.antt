use Rattle.std.proofs.Common.{◌≡◌, ◌≤◌, ◌<◌, ◌++◌, ◌+◌, ◌*◌, length, All}
use Rattle.linear.specs.CodeSets.{data_values}
use Rattle.linear.proofs.switching.push_values.Given as goal

-- the values so far and those of the data to come
abbrev pub invariant-loop-first : goal.invariant-loop-first
invariant-loop-first l = record {
  room : length l.values.items + 2 * length l.rest ≤ 2 * length l.data;
  ascii : All (λ byte. byte < 128) l.rest;
  whole : l.values.items ++ data_values l.set l.rest ≡ data_values l.fn.start l.data;
}

abbrev pub decreases-loop-first : goal.decreases-loop-first
decreases-loop-first l = length l.rest
