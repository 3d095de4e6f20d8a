-- Where no alignment pattern is.
use Rattle.std.proofs.Common.{◌≡◌, ℕ, refl, sym, ap, arith, Bool, true, false, ◌&&◌, List, [], ◌∷◌}
use Rattle.std.proofs.Common.{Option, None, Some}
use Rattle.std.specs.Prelude.{nat_le, is_none, if◌then◌else◌, slice_get}
use Rattle.std.specs.Int.{abs_diff}
use Rattle.std.specs.List.{filter_map, flat_map, list_any}
use Rattle.std.specs.Option.{option_map, option_or}
use Rattle.std.proofs.lemmas.Bool.Decides.{nat_tests}
use Rattle.qrdata.specs.Versions.{side_of}
use Rattle.qrmatrix.specs.Functions.{Role, Function, Format, Version, alignment, alignment_at}
use Rattle.qrmatrix.specs.Functions.{alignment_coordinates}
use Rattle.qrmatrix.specs.Functions.{finder, format_bit, is_dark_module, role, timing, version_bit}

-- whether a coordinate is near one of these
unfoldable pub is_near : List ℕ → ℕ → Bool
is_near lines c = list_any (λ b. nat_le (abs_diff b c) 2) lines

-- a column of patterns that are too far above, below or beside has no module
no_column : (n a x y : ℕ) (bs : List ℕ) → (is_near bs y && nat_le (abs_diff a x) 2) ≡ false
    → filter_map (λ b. if is_none (finder n a b) then alignment_at a b x y else None) bs ≡ []
unfolding is_near
no_column n a x y [] h = refl
no_column n a x y (b ∷ bs) h =
    let none : alignment_at a b x y ≡ None = grind (arith, nat_tests) in
    let rest = no_column n a x y bs (grind arith) in
    grind arith

no_columns : (n x y : ℕ) (lines rest : List ℕ) → (is_near lines y && is_near rest x) ≡ false
    → flat_map (λ a. filter_map (λ b. if is_none (finder n a b) then alignment_at a b x y else None) lines) rest ≡ []
unfolding is_near
no_columns n x y lines [] h = refl
no_columns n x y lines (a ∷ rest) h =
    rw (no_column n a x y lines (grind arith)) (no_columns n x y lines rest (grind arith))

-- the alignment patterns where the test is true, and none else
unfoldable pub alignment_if : Bool → ℕ → ℕ → ℕ → Option Bool
alignment_if true v x y = alignment v x y
alignment_if false v x y = None

alignment_if-near : (v x y : ℕ) (near : Bool)
    → (is_near (alignment_coordinates v) y && is_near (alignment_coordinates v) x) ≡ near
    → alignment_if near v x y ≡ alignment v x y
unfolding alignment alignment_if
alignment_if-near v x y true h = refl
alignment_if-near v x y false h =
    sym (ap (λ (ps : List Bool). slice_get ps 0)
    (no_columns (side_of v) x y (alignment_coordinates v) (alignment_coordinates v) h))

-- the role of a module that has this of the alignment patterns
unfoldable pub role_with : Option Bool → ℕ → ℕ → ℕ → Option Role
role_with pattern v x y =
    option_or (option_map Function (option_or (finder (side_of v) x y) (option_or pattern (timing x y))))
    (option_or (option_map Format (format_bit (side_of v) x y))
    (if is_dark_module (side_of v) x y then Some (Function true)
    else if nat_le 7 v then option_map Version (version_bit (side_of v) x y) else None))

-- the role of a module, with the alignment patterns looked at only where one is near
unfoldable pub near_role : ℕ → ℕ → ℕ → Option Role
unfolding role_with alignment_if is_near alignment_coordinates finder timing format_bit is_dark_module version_bit
    alignment
near_role v x y =
    let lines = alignment_coordinates v in
    role_with (alignment_if (is_near lines y && is_near lines x) v x y) v x y

pub near_role_is : (v x y : ℕ) → near_role v x y ≡ role v x y
unfolding near_role role role_with
near_role_is v x y = ap (λ pattern. role_with pattern v x y) (alignment_if-near v x y _ refl)
