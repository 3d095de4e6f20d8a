-- The data of a Code 128 symbol's values (ISO/IEC 15417, symbol structure and check character).
use Rattle.std.proofs.Common.{◌≡◌, ℕ, true, false, List, [], ◌∷◌, ◌++◌}
use Rattle.std.proofs.Common.{refl, ap, eqb, eq-eqb}
use Rattle.std.specs.Prelude.{◌&&◌}
use Rattle.std.specs.Str.{bytes_eq}
use Rattle.linear.specs.declared.switching.CodeSet.{CodeSet}
use Rattle.linear.specs.CodeSets.{start_value}
use Rattle.linear.specs.Code128.{check_value, with_check}

-- two lists that begin alike
same_ends : (inner : List ℕ) (check given : ℕ)
    → bytes_eq (inner ++ check ∷ []) (inner ++ given ∷ []) ≡ eqb check given
same_ends [] check given = elim (eqb check given) as (λ b. (b && true) ≡ b) [ true ↦ refl | false ↦ refl ]
same_ends (value ∷ inner) check given = rw (eq-eqb value value refl) (same_ends inner check given)

-- the ends alone show the set
pub by_ends : (set : CodeSet) (start check : ℕ) (inner : List ℕ)
    → bytes_eq (with_check set inner) (start ∷ (inner ++ check ∷ []))
    ≡ (eqb (start_value set) start && eqb (check_value (start_value set) inner) check)
by_ends set start check inner =
    ap (λ b. eqb (start_value set) start && b) (same_ends inner (check_value (start_value set) inner) check)
