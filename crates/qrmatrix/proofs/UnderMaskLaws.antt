-- The module under a mask: what was drawn for all masks, the format information of this one, and the mask.
use Rattle.std.proofs.Common.{◌≡◌, ℕ, ◌<◌, refl, arith, Bool, true, false, List}
use Rattle.std.specs.Prelude.{unwrap_or, if◌then◌else◌, Option, Some, None, is_none, option_map}
use Rattle.std.proofs.lemmas.Bool.{both_ways}
use Rattle.labelcore.specs.declared.level.Level.{Level}
use mathlib.Core.Bool.{xor}
use Rattle.qrdata.specs.Versions.{side_of}
use Rattle.qrmatrix.specs.Private.Drawing.{module_under_mask, unmasked_module, format_module, IsUnmasked, ShowsFormat}
use Rattle.qrmatrix.specs.Functions.{Role, fixed_module, module_of_role, role, is_free}
use Rattle.qrmatrix.specs.Information.{format_information}
use Rattle.qrmatrix.specs.Masks.{is_flipped}
use Rattle.qrmatrix.specs.Private.Squares.{flip_if}
use Rattle.qrmatrix.specs.Placement.{codeword_bit, rank}
use Rattle.qrmatrix.specs.Square.{value_at}

-- nothing is drawn where the codewords go
pub free_is_light : (v : ℕ) (r : Option Role) → is_none r ≡ true → unmasked_module v r ≡ false
free_is_light v (Some r) h = absurd (both_ways _ refl h)
free_is_light v None h = refl

-- the module of each role
-- the proof is by cases of the role, so f, t, chosen and old are values, with facts on those that depend on it;
-- `under`, the only caller, gives its terms: two modules, the mask and the codeword bit
shown : (v : ℕ) (level : Level) (mask : ℕ) (r : Option Role) (f t chosen old : Bool) → f ≡ is_none r
    → (is_none r ≡ true → old ≡ chosen) → (is_none r ≡ false → old ≡ unmasked_module v r)
    → flip_if (format_module (format_information level mask) r) (if f then flip_if t old else old)
    ≡ unwrap_or (option_map (module_of_role v level mask) r) (xor t chosen)
unfolding xor
shown v level mask r f t chosen old e free taken = grind arith

pub under : {v : ℕ} {level : Level} {mask : ℕ} {codewords : List ℕ} {free modules m new : List (List Bool)}
    → IsUnmasked v codewords free modules → ShowsFormat v level mask m new → (x y : ℕ) → x < side_of v → y < side_of v
    → value_at m x y ≡ module_under_mask mask free modules x y
    → value_at new x y ≡ unwrap_or (fixed_module v level mask x y)
    (xor (is_flipped mask x y) (codeword_bit codewords (rank v x y)))
unfolding fixed_module is_free
under {v} {level} {mask} {codewords} {free} {modules} {m} {new} u s x y lx ly e =
    rw (s.inside x y lx ly, e) (shown v level mask (role v x y) (value_at free x y) (is_flipped mask x y)
    (codeword_bit codewords (rank v x y)) (value_at modules x y) (u.marked.inside x y lx ly) (u.placed x y lx ly)
    (u.taken x y lx ly))
