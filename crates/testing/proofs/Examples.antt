-- A worked value: counts of failures stop at the greatest number of 64 bits.
use Rattle.std.specs.Prelude.{◌≡◌, [], ◌∷◌, refl, map}
use Rattle.testing.specs.FailAt.{total_failures}

failures_stop : map (total_failures 1) (0 ∷ 18446744073709551613 ∷ 18446744073709551614 ∷ 18446744073709551615 ∷ []) ≡
    1 ∷ 18446744073709551614 ∷ 18446744073709551615 ∷ 18446744073709551615 ∷ []
failures_stop = refl
