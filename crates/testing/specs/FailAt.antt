-- A device that fails at one call, as its clauses see it (docs/SPECIFICATION.md, The filter as a library).
use Rattle.std.specs.Prelude.{◌≡◌, ℕ, ◌+◌, ◌-◌, ◌^◌, ◌<◌, min, Result, IsErr}
use Rattle.device.specs.Device.{CountsFailure}
use Rattle.testing.specs.declared.fail_at.FailAt.{FailAt}

-- the sum of two counts; it stops at the greatest `u64`
abbrev pub total_failures : ℕ → ℕ → ℕ
total_failures own below = min (own + below) (2 ^ 64 - 1)

-- the device below
abbrev pub device_of : {D : Type 0} → FailAt D → D
device_of s = s.device

-- the calls so far; the count stops at the greatest `u64`
abbrev pub calls_of : {D : Type 0} → FailAt D → ℕ
calls_of s = s.calls

-- the number of the call that fails, from 1, or 0 for none
abbrev pub failing_call : {D : Type 0} → FailAt D → ℕ
failing_call s = s.failing

-- the failures that did not reach the device
abbrev pub own_failures : {D : Type 0} → FailAt D → ℕ
own_failures s = s.failures

-- the next call fails
abbrev pub FailsNext : {D : Type 0} → FailAt D → Type 0
FailsNext s = (calls_of s < 2 ^ 64 - 1) × (calls_of s + 1 ≡ failing_call s)

-- a call is counted
pub record CountsCall {D : Type 0} (old new : FailAt D) : Type 0 where
  pub calls : calls_of new ≡ min (calls_of old + 1) (2 ^ 64 - 1)
  pub failing : failing_call new ≡ failing_call old

-- a call that fails does not reach the device
pub record FailsAlone {D T E : Type 0} (old new : FailAt D) (r : Result T E) : Type 0 where
  pub device : device_of new ≡ device_of old
  pub count : own_failures new ≡ min (own_failures old + 1) (2 ^ 64 - 1)
  pub answer : IsErr r

-- what a counted call does, where `failures` counts the failures of the device below: the call that is to fail does not
-- reach the device; any other call fails only where the device does
pub record FailsInTurn {D T E : Type 0} (failures : D → ℕ) (old new : FailAt D) (r : Result T E) : Type 0 where
  pub call : CountsCall old new
  pub fails : FailsNext old → FailsAlone old new r
  pub own : ¬ FailsNext old → own_failures new ≡ own_failures old
  pub below : ¬ FailsNext old → CountsFailure (failures (device_of old)) (failures (device_of new)) r
