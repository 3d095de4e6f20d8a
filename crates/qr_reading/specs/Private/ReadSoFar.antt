-- What of a symbol's data was read and what is still to be read, as contracts inside this crate see them.
use Rattle.std.specs.Prelude.{ℕ, Bool, Option, List, ◌++◌, ◌+◌, ◌*◌, ◌≤◌, length, option_map}

-- what was read before, with the bytes that are found next, and the bits after these
unfoldable pub after : List ℕ → Option (List ℕ × List Bool) → Option (List ℕ × List Bool)
after before found = option_map (λ next. (before ++ next.0, next.1)) found

-- what was read before, with the bytes that are found next, to the end
unfoldable pub with_rest : List ℕ → Option (List ℕ) → Option (List ℕ)
with_rest before found = option_map (λ rest. before ++ rest) found

-- there is room for what the bits may hold: three digits in ten bits are the most
abbrev pub HasRoom : List ℕ → List Bool → Type 0
HasRoom bytes bits = 10 * length bytes + 3 * length bits ≤ 3 * 2192

-- the bits that are left after some were read are no more than there were, and there is room for them
abbrev pub Leaves : List ℕ → (bits rest : List Bool) → Type 0
Leaves bytes bits rest = HasRoom bytes rest × (length rest ≤ length bits)
