-- Which mask a symbol gets (ISO/IEC 18004, 7.8.1).
-- Why: `chosen_mask`: 7.8.1.
use Rattle.std.specs.Prelude.{ℕ, List, Option, map, nat_le, unwrap_or}
use Rattle.std.specs.List.{range_with_len, list_all, position_or_len}
use Rattle.labelcore.specs.declared.level.Level.{Level}
use Rattle.qrdata.specs.Versions.{side_of}
use Rattle.qrmatrix.specs.Modules.{module_at}
use Rattle.qrmatrix.specs.Penalty.{penalty}

-- the mask that is asked for, or else the first of 0 to 7 under which the symbol has the lowest penalty
unfoldable pub chosen_mask : ℕ → Level → Option ℕ → List ℕ → ℕ
chosen_mask v level asked codewords =
    let penalties = map (λ mask. penalty (side_of v) (module_at v level mask codewords)) (range_with_len 0 8) in
    unwrap_or asked (position_or_len (λ p. list_all (nat_le p) penalties) penalties)
