-- Groups of modules, as contracts inside this crate see them.
use Rattle.std.specs.Prelude.{◌≡◌, ℕ, ◌+◌, ◌*◌, ◌%◌, Bool, List, Option, length}
use Rattle.std.specs.List.{fold}
use Rattle.std.specs.Int.{from_bool}
use Rattle.std.specs.Fn.{FnReturnsAt, Shared}
use denote.Ref.{Bor}

-- the number whose bits are these, at most eight of them
abbrev pub number_of : List Bool → ℕ
number_of bits = fold (λ number bit. 2 * (number % 128) + from_bool bit) 0 bits

-- what reads a group may be called at each group of a width
abbrev pub TakesGroups : {F Y : Type 0} → Shared F (Bor (List Bool) × Unit {0}) (Option Y) → F → ℕ → Type 0
TakesGroups g f width = (group : Bor (List Bool)) → length group.now ≡ width → g.pre f (group, tt)

-- what it finds in each is what a rule finds
abbrev pub Finds : {F Y : Type 0} → Shared F (Bor (List Bool) × Unit {0}) (Option Y) → F → ℕ
    → (List Bool → Option Y) → Type 0
Finds {Y = Y} g f width rule =
    (group : List Bool) (y : Option Y) → length group ≡ width → FnReturnsAt g f group y → y ≡ rule group
