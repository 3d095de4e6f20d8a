-- What a scanner finds in a row where it is told neither the symbology nor the direction, nor where a symbol begins
-- (ISO/IEC 15420 and 15417, reference decode algorithms).
-- Why: `readings`, `HasOneReading`, `HasNoGap`, `HasNoPart`: 15420 and 15417, reference decode algorithms and quiet zones.
use Rattle.std.specs.Prelude.{◌≡◌, ◌≢◌, ◌≤◌, ◌⊎◌, ℕ, Bool, false, List, [], ◌∷◌, ◌++◌, flat_map, length, replicate}
use Rattle.std.specs.Prelude.{reverse}
use Rattle.std.specs.Option.{option_to_list}
use Rattle.linear.specs.EanReading.{read_ean13, read_ean8}
use Rattle.linear.specs.Code128Reading.{read_code128}

-- all that a row is read as, forwards and backwards; the symbols of UPC-A are those of EAN-13 whose first digit is 0
abbrev pub readings : List Bool → List (List ℕ)
readings row = flat_map (λ reading. option_to_list (reading row) ++ option_to_list (reading (reverse row)))
    (read_ean13 ∷ read_ean8 ∷ read_code128 ∷ [])

-- a row has no second reading
abbrev pub HasOneReading : List Bool → Type 0
HasOneReading row = length (readings row) ≤ 1

-- nowhere in a row do five light modules follow one another; each quiet zone has seven at least
abbrev pub HasNoGap : List Bool → Type 0
HasNoGap row = (before after : List Bool) → row ≢ before ++ (replicate 5 false ++ after)

-- With light modules before and after a row, of all that has five light modules on either side the row alone is read.
abbrev pub HasNoPart : List Bool → Type 0
HasNoPart row =
    (left right : ℕ) (before part after : List Bool)
    → replicate left false ++ (row ++ replicate right false)
    ≡ before ++ (replicate 5 false ++ (part ++ (replicate 5 false ++ after)))
    → (part ≡ row) ⊎ (readings part ≡ [])
