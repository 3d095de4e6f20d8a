-- Single characters, names in a list, and the names of levels (docs/SPECIFICATION.md, Options).
-- Why: `level_named`: SPECIFICATION, Options.
use Rattle.std.specs.Prelude.{ℕ, Bool, ◌==◌, List, [], ◌∷◌, Option, option_map, codes}
use Prim.Native.String.{String}
use Rattle.std.specs.List.{find}
use Rattle.std.specs.Str.{byte, bytes_eq}
use Rattle.labelcore.specs.declared.level.Level.{Level}
use Rattle.labelcore.specs.declared.level.Level.TheVariants.{L, M, Q, H}

-- whether a byte is this character
abbrev pub is : String → ℕ → Bool
is character b = b == byte character

-- what a list has beside this name, where the name is first found
abbrev pub listed : {X : Type 0} → List ℕ → List (List ℕ × X) → Option X
listed name entries = option_map (λ entry. entry.1) (find (λ entry. bytes_eq name entry.0) entries)

-- the level that this letter names
unfoldable pub level_named : List ℕ → Option Level
level_named value = listed value ((codes "L", L) ∷ (codes "M", M) ∷ (codes "Q", Q) ∷ (codes "H", H) ∷ [])
