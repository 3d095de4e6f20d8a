-- What each module of a QR symbol is there for (ISO/IEC 18004, 6.3, 7.9, 7.10 and Annex E).
-- A pattern is `Some true` where it has a dark module, `Some false` where it has a light one, and `None` where it has
-- none.
-- Why: `finder`, `alignment`, `timing`, `role`, `fixed_module`: 6.3, annex E.
use Rattle.std.specs.Prelude.{ℕ, ◌+◌, ◌-◌, ◌*◌, ◌%◌, max, Bool, true, not, ◌&&◌, ◌==◌, nat_lt, nat_le}
use Rattle.std.specs.Prelude.{if◌then◌else◌, List, [], ◌∷◌, Option, None, Some, is_none, slice_get, slice_index_or}
use Rattle.std.specs.Int.{abs_diff}
use Rattle.std.specs.List.{filter_map, flat_map}
use Rattle.std.specs.Option.{option_map, option_or}
use Rattle.labelcore.specs.declared.level.Level.{Level}
use Rattle.qrdata.specs.Versions.{side_of}
use Rattle.qrmatrix.specs.Bits.{bit}
use Rattle.qrmatrix.specs.Information.{format_information, version_information}

-- what a module is there for, if not for the codewords: a function pattern, dark where true; a bit of the format
-- information; or a bit of the version information
pub data Role : Type 0 where
  Function : (dark : Bool) → Role
  Format : (i : ℕ) → Role
  Version : (i : ℕ) → Role

-- the square ring round the centre (a, b) on which the place (x, y) lies; ring 0 is the centre itself
abbrev pub ring : ℕ → ℕ → ℕ → ℕ → ℕ
ring a b x y = max (abs_diff a x) (abs_diff b y)

-- a finder pattern of 7x7 modules with its separator, dark but for the rings 2 and 4
abbrev pub finder_at : ℕ → ℕ → ℕ → ℕ → Option Bool
finder_at a b x y = let r = ring a b x y in if nat_le r 4 then Some (not (r == 2) && not (r == 4)) else None

-- the three finder patterns of a symbol of n by n modules
unfoldable pub finder : ℕ → ℕ → ℕ → Option Bool
finder n x y = option_or (finder_at 3 3 x y) (option_or (finder_at (n - 4) 3 x y) (finder_at 3 (n - 4) x y))

-- an alignment pattern of 5x5 modules, dark but for the ring 1
abbrev pub alignment_at : ℕ → ℕ → ℕ → ℕ → Option Bool
alignment_at a b x y = let r = ring a b x y in if nat_le r 2 then Some (not (r == 1)) else None

-- the row and column coordinates of the centres of the alignment patterns (Table E.1)
unfoldable pub alignment_coordinates : ℕ → List ℕ
alignment_coordinates v =
    slice_index_or ([] ∷ [] ∷ (6 ∷ 18 ∷ []) ∷ (6 ∷ 22 ∷ []) ∷ (6 ∷ 26 ∷ []) ∷ (6 ∷ 30 ∷ []) ∷ (6 ∷ 34 ∷ [])
    ∷ (6 ∷ 22 ∷ 38 ∷ []) ∷ (6 ∷ 24 ∷ 42 ∷ []) ∷ (6 ∷ 26 ∷ 46 ∷ []) ∷ (6 ∷ 28 ∷ 50 ∷ []) ∷ []) v []

-- the alignment patterns of a version, one about each place whose column and row are among the coordinates, but for the
-- places that a finder pattern has
unfoldable pub alignment : ℕ → ℕ → ℕ → Option Bool
unfolding alignment_coordinates finder
alignment v x y =
    let lines = alignment_coordinates v in
    let at = λ (a b : ℕ). if is_none (finder (side_of v) a b) then alignment_at a b x y else None in
    slice_get (flat_map (λ a. filter_map (at a) lines) lines) 0

-- the timing patterns in column 6 and row 6, dark at even places
unfoldable pub timing : ℕ → ℕ → Option Bool
timing x y = if x == 6 then Some (y % 2 == 0) else if y == 6 then Some (x % 2 == 0) else None

-- which bit of the format information is at a place, in either of its two copies
unfoldable pub format_bit : ℕ → ℕ → ℕ → Option ℕ
format_bit n x y =
    if x == 8 then
    (if nat_lt y 6 then Some y else if y == 7 then Some 6 else if y == 8 then Some 7
    else if nat_le (n - 7) y then Some (y + 15 - n) else None)
    else if y == 8 then
    (if nat_lt x 6 then Some (14 - x) else if x == 7 then Some 8
    else if nat_le (n - 8) x then Some (n - 1 - x) else None)
    else None

-- which bit of the version information is at a place, in either of its two copies
unfoldable pub version_bit : ℕ → ℕ → ℕ → Option ℕ
version_bit n x y =
    if nat_lt x 6 && (nat_le (n - 11) y && nat_lt y (n - 8)) then Some (3 * x + (y - (n - 11)))
    else if nat_lt y 6 && (nat_le (n - 11) x && nat_lt x (n - 8)) then Some (3 * y + (x - (n - 11))) else None

-- the module beside the lower left finder pattern that is always dark
unfoldable pub is_dark_module : ℕ → ℕ → ℕ → Bool
is_dark_module n x y = (x == 8) && (y == n - 8)

-- the role of the module at column x and row y in version v: that of the first pattern that has the module, and none
-- where the codewords choose it
unfoldable pub role : ℕ → ℕ → ℕ → Option Role
unfolding finder alignment timing format_bit version_bit is_dark_module
role v x y =
    option_or (option_map Function (option_or (finder (side_of v) x y) (option_or (alignment v x y) (timing x y))))
    (option_or (option_map Format (format_bit (side_of v) x y))
    (if is_dark_module (side_of v) x y then Some (Function true)
    else if nat_le 7 v then option_map Version (version_bit (side_of v) x y) else None))

-- the module that a role fixes for a version, a level and a mask, dark where true
abbrev pub module_of_role : ℕ → Level → ℕ → Role → Bool
module_of_role v level mask (Function b) = b
module_of_role v level mask (Format i) = bit (format_information level mask) i
module_of_role v level mask (Version i) = bit (version_information v) i

-- the module at column x and row y, where the codewords do not choose it
unfoldable pub fixed_module : ℕ → Level → ℕ → ℕ → ℕ → Option Bool
fixed_module v level mask x y = option_map (module_of_role v level mask) (role v x y)

-- whether the codewords choose the module
unfoldable pub is_free : ℕ → ℕ → ℕ → Bool
is_free v x y = is_none (role v x y)
