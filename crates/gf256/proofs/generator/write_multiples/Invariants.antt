use Rattle.std.proofs.Common.{◌≡◌, ◌*◌, ◌<◌, ℕ, [], get_or, length}
use Rattle.gf256.specs.Polynomial.{scalar_multiple}
use Rattle.gf256.proofs.generator.write_multiples.Given as goal

-- the multiples before are made
abbrev pub invariant-loop-i : goal.invariant-loop-i
invariant-loop-i l =
    (length l.multiples ≡ 16) × ((n : ℕ) → n < 2 * l.i → get_or l.multiples n [] ≡ scalar_multiple n l.polynomial)
