-- The square of modules after each step of drawing a symbol (ISO/IEC 18004, 7.7 to 7.9).
use Rattle.std.specs.Prelude.{◌≡◌, ℕ, ◌<◌, ◌≤◌, ◌^◌, Bool, true, false, not, List, if◌then◌else◌, nat_lt, Option}
use Rattle.std.specs.Prelude.{Some, None}
use Rattle.labelcore.specs.declared.level.Level.{Level}
use Rattle.qrdata.specs.Versions.{side_of}
use Rattle.qrmatrix.specs.Bits.{bit}
use Rattle.qrmatrix.specs.Functions.{Role, Function, Format, Version, role, is_free}
use Rattle.qrmatrix.specs.Information.{format_information, version_information}
use Rattle.qrmatrix.specs.Masks.{is_flipped}
use Rattle.qrmatrix.specs.Private.Squares.{flip_if}
use Rattle.qrmatrix.specs.Modules.{module_at}
use Rattle.qrmatrix.specs.Placement.{codeword_bit, rank}
use Rattle.qrmatrix.specs.Square.{value_at}
use Rattle.qrmatrix.specs.Private.Squares.{SameOutside}
use Rattle.qrmatrix.specs.declared.function.PatternRow.{PatternRow}
use Rattle.qrmatrix.specs.declared.unmasked.Unmasked.{Unmasked}
use Rattle.qrmatrix.specs.declared.unmasked.Masked.{Masked}

-- the square marks the modules that the codewords choose
pub record MarksFree (v : ℕ) (free : List (List Bool)) : Type 0 where
  pub inside : (x y : ℕ) → x < side_of v → y < side_of v → value_at free x y ≡ is_free v x y
  pub outside : (x y : ℕ) → side_of v ≤ x → value_at free x y ≡ false

-- a marked module with the mask laid over, another as it is
abbrev pub module_under_mask : ℕ → List (List Bool) → List (List Bool) → ℕ → ℕ → Bool
module_under_mask mask free modules x y =
    if value_at free x y then flip_if (is_flipped mask x y) (value_at modules x y) else value_at modules x y

-- the rows before `last` are under a mask, and the others are as at the start
abbrev pub IsMaskedTo : ℕ → ℕ → List (List Bool) → List (List Bool) → List (List Bool) → List (List Bool) → Type 0
IsMaskedTo last mask free modules start masked =
    (x y : ℕ) → value_at masked x y
    ≡ (if nat_lt y last then module_under_mask mask free modules x y else value_at start x y)

-- the module that a role fixes for every level and mask; the format information is light
abbrev pub unmasked_module : ℕ → Option Role → Bool
unmasked_module v (Some (Function b)) = b
unmasked_module v (Some (Format i)) = false
unmasked_module v (Some (Version i)) = bit (version_information v) i
unmasked_module v None = false

-- the bits of a row have the modules that the codewords do not choose, and those of them that are dark
pub record HasFunctions (v y : ℕ) (row : PatternRow) : Type 0 where
  pub taken : (x : ℕ) → x < side_of v → bit row.taken x ≡ not (is_free v x y)
  pub dark : (x : ℕ) → x < side_of v → bit row.dark x ≡ unmasked_module v (role v x y)
  pub narrow_taken : row.taken < 2 ^ side_of v
  pub narrow_dark : row.dark < 2 ^ side_of v

-- the module that the format information makes dark
abbrev pub format_module : ℕ → Option Role → Bool
format_module information (Some (Function b)) = false
format_module information (Some (Format i)) = bit information i
format_module information (Some (Version i)) = false
format_module information None = false

-- a symbol that has no format information and no mask laid over
pub record IsUnmasked (v : ℕ) (codewords : List ℕ) (free modules : List (List Bool)) : Type 0 where
  pub marked : MarksFree v free
  pub placed : (x y : ℕ) → x < side_of v → y < side_of v → is_free v x y ≡ true
      → value_at modules x y ≡ codeword_bit codewords (rank v x y)
  pub taken : (x y : ℕ) → x < side_of v → y < side_of v → is_free v x y ≡ false
      → value_at modules x y ≡ unmasked_module v (role v x y)
  pub columns : (x y : ℕ) → side_of v ≤ x → value_at modules x y ≡ false
  pub rows : (x y : ℕ) → side_of v ≤ y → value_at modules x y ≡ false

-- the codewords are placed in a drawing
abbrev pub Places : Unmasked → List ℕ → Type 0
Places unmasked codewords = IsUnmasked unmasked.version codewords unmasked.free unmasked.modules

-- a drawing of the codewords of a symbol, without a mask
pub record Draws (v : ℕ) (level : Level) (codewords : List ℕ) (unmasked : Unmasked) : Type 0 where
  pub same_version : unmasked.version ≡ v
  pub same_level : unmasked.level ≡ level
  pub placed : Places unmasked codewords

-- the modules under a mask are those of the symbol
abbrev pub ShowsSymbol : Unmasked → List ℕ → Masked → Type 0
ShowsSymbol unmasked codewords masked =
    (x y : ℕ) → value_at masked.modules x y ≡ module_at unmasked.version unmasked.level masked.mask codewords x y

-- the modules of the format information are drawn for a mask, where they were light
pub record ShowsFormat (v : ℕ) (level : Level) (mask : ℕ) (old new : List (List Bool)) : Type 0 where
  pub inside : (x y : ℕ) → x < side_of v → y < side_of v
      → value_at new x y ≡ flip_if (format_module (format_information level mask) (role v x y)) (value_at old x y)
  pub outside : SameOutside (side_of v) old new

-- the codewords are placed on the free modules, and nothing else is written
pub record PlacesCodewords (v : ℕ) (codewords : List ℕ) (old new : List (List Bool)) : Type 0 where
  pub placed : (x y : ℕ) → x < side_of v → y < side_of v → is_free v x y ≡ true
      → value_at new x y ≡ codeword_bit codewords (rank v x y)
  pub others : (x y : ℕ) → x < side_of v → y < side_of v → is_free v x y ≡ false → value_at new x y ≡ value_at old x y
  pub outside : SameOutside (side_of v) old new

-- the function patterns are drawn: the modules that they leave to the codewords are marked, and those of theirs that
-- are dark are drawn
pub record DrawsFunctions (v : ℕ) (free old new : List (List Bool)) : Type 0 where
  pub marked : MarksFree v free
  pub drawn : (x y : ℕ) → x < side_of v → y < side_of v → value_at new x y ≡ unmasked_module v (role v x y)
  pub outside : SameOutside (side_of v) old new
