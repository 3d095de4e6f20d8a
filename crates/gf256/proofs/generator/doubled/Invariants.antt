use Rattle.std.proofs.Common.{◌≡◌, ◌<◌, ℕ, get_or, length}
use Rattle.gf256.specs.Field.{alpha, field_product}
use Rattle.gf256.proofs.generator.doubled.Given as goal

-- the coefficients so far
abbrev pub invariant-loop-j : goal.invariant-loop-j
invariant-loop-j l = record {
  whole : length l.product ≡ 32;
  so_far : (k : ℕ) → k < l.j → get_or l.product k 0 ≡ field_product alpha (get_or l.polynomial k 0);
}
