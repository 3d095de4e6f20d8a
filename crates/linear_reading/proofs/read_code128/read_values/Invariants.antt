use Rattle.std.proofs.Common.{◌≡◌, ◌≤◌, ◌*◌, false, drop, length}
use Rattle.linear.specs.Code128Reading.{read_values}
use Rattle.linear_reading.proofs.ValueStepLaws.{with_values}
use Rattle.linear_reading.proofs.read_code128.read_values.Given as goal

-- the bytes so far and those of the values to come
abbrev pub invariant-loop-value : goal.invariant-loop-value
invariant-loop-value l = record {
  room : length l.full.items ≤ 2 * l.value-index;
  all : with_values l.full.items l.set l.is_shifted (drop l.value-index l.values) ≡ read_values l.fn.start false l.values;
}
