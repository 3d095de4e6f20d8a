use Rattle.std.proofs.Common.{◌≡◌, ◌<◌, ◌≤◌, ℕ, get_or, length}
use Rattle.gf256.specs.Field.{alpha, field_power}
use Rattle.gf256.proofs.generator.coefficients_of.Given as goal

-- the coefficients so far, and zeros
abbrev pub invariant-loop-j : goal.invariant-loop-j
invariant-loop-j l = record {
  whole : length l.coefficients ≡ 32;
  so_far : (i : ℕ) → i < l.j → get_or l.coefficients i 0 ≡ field_power alpha (get_or l.logarithms i 0);
  behind : (i : ℕ) → l.j ≤ i → i < 32 → get_or l.coefficients i 0 ≡ 0;
}
