-- What each call of a sink promises, over the sink's ghosts (docs/SPECIFICATION.md, The filter as a library).
use Rattle.std.specs.Prelude.{◌≡◌, ℕ, ◌<◌, ◌≤◌, Bool, true, false, List, [], ◌++◌, length, take, Result, IfOk, IsTrue}
use Rattle.std.specs.Prelude.{IsFalse, MatchResult, OnOk}
use Rattle.device.specs.Device.{CountsFailure}

-- a write of a text takes at least one byte from its front and returns how many; one that fails takes none
pub record WritesSome {S E : Type 0} (failures : S → ℕ) (is_flushed : S → Bool) (took : S → S → List ℕ → Type 0)
    (old new : S) (text : List ℕ) (r : Result ℕ E) : Type 0 where
  pub some : IfOk r (λ n. 0 < n)
  pub bound : IfOk r (λ n. n ≤ length text)
  pub bytes : MatchResult r (λ n. took old new (take n text)) (λ _. took old new [])
  pub count : CountsFailure (failures old) (failures new) r
  pub flushed : MatchResult r (λ _. is_flushed new ≡ false) (λ _. is_flushed new ≡ is_flushed old)

-- a flush takes no byte, and if it succeeds leaves the sink flushed, with nothing buffered here
pub record Flushes {S T E : Type 0} (failures : S → ℕ) (is_flushed : S → Bool) (buffers_nothing : S → Type 0)
    (took : S → S → List ℕ → Type 0) (old new : S) (r : Result T E) : Type 0 where
  pub bytes : took old new []
  pub count : CountsFailure (failures old) (failures new) r
  pub flushed : MatchResult r (λ _. is_flushed new ≡ true) (λ _. is_flushed new ≡ is_flushed old)
  pub buffered : OnOk r (buffers_nothing new)

-- passing on what is buffered takes no byte, flushes nothing, and if it succeeds leaves nothing buffered here
pub record PassesBuffered {S T E : Type 0} (failures : S → ℕ) (is_flushed : S → Bool) (buffers_nothing : S → Type 0)
    (took : S → S → List ℕ → Type 0) (old new : S) (r : Result T E) : Type 0 where
  pub bytes : took old new []
  pub count : CountsFailure (failures old) (failures new) r
  pub flushed : is_flushed new ≡ is_flushed old
  pub buffered : OnOk r (buffers_nothing new)

-- a sink that repeats takes its last bytes once more: the end of what it took since any earlier state, where that is
-- long enough. One that does not is unchanged.
pub record RepeatsBytes {S : Type 0} (failures : S → ℕ) (is_flushed : S → Bool) (took : S → S → List ℕ → Type 0)
    (old new : S) (size : ℕ) (r : Bool) : Type 0 where
  pub bytes : IsTrue r → (before : S) (front last : List ℕ) → length last ≡ size → took before old (front ++ last)
      → took old new last
  pub count : failures new ≡ failures old
  pub flushed : IsTrue r → is_flushed new ≡ false
  pub kept : IsFalse r → new ≡ old
