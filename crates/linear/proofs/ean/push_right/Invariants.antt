use Rattle.std.proofs.Common.{◌≡◌, ◌≤◌, ◌++◌, take, length, ◌+◌, ◌*◌}
use Rattle.std.specs.Prelude.{flat_map}
use Rattle.linear.specs.declared.ean.NumberSet.TheVariants.{C}
use Rattle.linear.specs.Digits.{digit_value}
use Rattle.linear.specs.Ean.{pattern}
use Rattle.linear.proofs.ean.push_right.Given as goal

-- the row has the patterns of the digits so far
abbrev pub invariant-loop-digit : goal.invariant-loop-digit
invariant-loop-digit l = record {
  room : length l.row.items ≤ length l.initial.row.items + 7 * l.digit-index;
  drawn : l.row.items ≡ l.initial.row.items
      ++ flat_map (λ byte. pattern C (digit_value byte)) (take l.digit-index l.digits);
}
