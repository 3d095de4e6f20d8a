use Rattle.std.proofs.Common.{◌≡◌, map, take}
use Rattle.linear_reading.proofs.read_ean.with_first_digit.Given as goal

abbrev pub invariant-loop-letter : goal.invariant-loop-letter
invariant-loop-letter l = record {
  letters : l.letters.items ≡ map (λ found. found.0) (take l.letter-index l.left);
  digits : l.digits.items ≡ map (λ found. found.1) (take l.letter-index l.left);
}
