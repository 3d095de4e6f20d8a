-- What a read of a source promises, over the source's ghosts (docs/SPECIFICATION.md, The filter as a library).
use Rattle.std.specs.Prelude.{◌≡◌, ℕ, ◌≤◌, ◌==◌, Bool, List, [], length, take, Result, IfOk, MatchResult}
use Rattle.device.specs.Device.{CountsFailure}

-- a read puts bytes at the front of the buffer and returns how many: 0 at the end; one that fails gives none
pub record ReadsSome {S E : Type 0} (failures : S → ℕ) (at_end : S → Bool) (gave : S → S → List ℕ → Type 0)
    (ends : S → Type 0) (old new : S) (buffer : List ℕ) (r : Result ℕ E) : Type 0 where
  pub bound : IfOk r (λ n. n ≤ length buffer)
  pub bytes : MatchResult r (λ n. gave old new (take n buffer)) (λ _. gave old new [])
  pub count : CountsFailure (failures old) (failures new) r
  pub end : MatchResult r (λ n. at_end new ≡ (n == 0)) (λ _. at_end new ≡ at_end old)
  pub nothing_left : IfOk r (λ n. n ≡ 0 → ends new)
