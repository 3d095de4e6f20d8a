-- Groups that are read one after another (ISO/IEC 15420 and 15417, symbol characters).
use Rattle.std.proofs.Common.{◌≡◌, ℕ, suc, Bool, Option, Some, None, List, [], ◌∷◌, ◌++◌, take, drop}
use Rattle.std.proofs.Common.{refl, sym, ap, append_assoc}
use Rattle.std.specs.Prelude.{option_map}
use Rattle.linear.specs.Modules.{each_group}

module _ {Y : Type 0} (found : List Bool → Option Y) (width : ℕ) where
  -- what is read before and what is still to be read
  abbrev pub with_groups : List Y → ℕ → List Bool → Option (List Y)
  with_groups before count row = option_map (λ rest. before ++ rest) (each_group found width count row)

  pub no_group : (count more : ℕ) (row : List Bool) (before : List Y) → count ≡ suc more
      → None ≡ found (take width row) → with_groups before count row ≡ None
  no_group count more row before is none = rw (is, ← none) refl

  rest_after : (before : List Y) (y : Y) (rest : Option (List Y))
      → option_map (λ ys. before ++ ys) (option_map (λ ys. y ∷ ys) rest)
      ≡ option_map (λ ys. (before ++ y ∷ []) ++ ys) rest
  rest_after before y None = refl
  rest_after before y (Some rest) = ap Some (sym (append_assoc before (y ∷ []) rest))

  pub one_group : (count more : ℕ) (row : List Bool) (before : List Y) (y : Y) → count ≡ suc more
      → Some y ≡ found (take width row)
      → with_groups before count row ≡ with_groups (before ++ y ∷ []) more (drop width row)
  one_group count more row before y is some =
      rw (is, ← some) (rest_after before y (each_group found width more (drop width row)))
