-- Bytes that a sink buffers and passes on (docs/SPECIFICATION.md, The filter as a library).
use Rattle.std.specs.Prelude.{◌≡◌, ℕ, List, ◌++◌}

-- the sink took a front of what was buffered and what was added, and what is buffered now is the rest
pub record PassesOn {S : Type 0} (took : S → S → List ℕ → Type 0) (old new : S)
    (old_buffered new_buffered added : List ℕ) : Type 0 where
  pub sent : List ℕ
  pub taken : took old new sent
  pub cut : old_buffered ++ added ≡ sent ++ new_buffered
