-- A list that grows, as contracts inside this crate see it.
use Rattle.std.specs.Prelude.{◌≡◌, ◌≤◌, ℕ, ◌+◌, List, ◌++◌, length}

-- the new list is the old one with elements after it, at most `count`
pub record Appends {X : Type 0} (old new elements : List X) (count : ℕ) : Type 0 where
  pub items : new ≡ old ++ elements
  pub len : length new ≤ length old + count
