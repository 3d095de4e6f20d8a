-- Payloads are read group by group: what one group gives, and what is read after it.
use Rattle.std.proofs.Common.{◌≡◌, ℕ, zero, suc, ◌+◌, ◌-◌, ◌<◌, List, ◌++◌, Bool, refl, sym, ap, append_assoc, arith, le-ltb}
use Rattle.std.proofs.lemmas.List.{append-nil}
use Rattle.std.specs.Prelude.{None, Option, Some}
use Rattle.std.proofs.lemmas.Bool.{eqb-true}
use Rattle.std.specs.Prelude.{◌==◌}
use Rattle.labelcore.proofs.Laws.ComputedLaws.{passes}
use Rattle.qrdata.specs.Segments.{alphanumeric_characters}
use Rattle.qrdata.specs.declared.mode.Mode.{Mode}
use Rattle.qrdata.specs.declared.mode.Mode.TheVariants.{Numeric, Alphanumeric, Byte}
use Rattle.qr_reading.specs.Private.Groups.{group_bytes, next_group}
use Rattle.qr_reading.specs.Private.ReadSoFar.{after}
use Rattle.qrdata.specs.Reading.{alphanumeric_character, bytes_at, characters_at, digits_at, number_at, payload_at}
use Rattle.labelcore.specs.Steps.{◌>>=◌}

-- the first ten characters are the digits
pub digit_character : (value : ℕ) → value < 10 → alphanumeric_character value ≡ 48 + value
unfolding alphanumeric_characters
digit_character value low = eqb-true _ _ (passes (λ d. alphanumeric_character d == 48 + d) 10 value refl low)

-- a payload is its first group and the others
in_groups : (mode : Mode) (left : ℕ) (bits : List Bool) → 0 < left
    → payload_at mode left bits
    ≡ (number_at (next_group mode left).limit (next_group mode left).width bits >>= λ n.
    payload_at mode (left - (next_group mode left).size) n.1 >>= λ others.
    Some (group_bytes mode left n.0 ++ others.0, others.1))
unfolding digits_at characters_at bytes_at
in_groups mode zero bits some = absurd (omega arith)
in_groups Numeric (suc zero) bits some = refl
in_groups Numeric (suc (suc zero)) bits some = refl
in_groups Numeric (suc (suc (suc left))) bits some =
    let less : suc (suc (suc left)) - 3 ≡ left = omega arith in
    rw (le-ltb (suc (suc (suc left))) 2 (omega arith), le-ltb (suc (suc (suc left))) 3 (omega arith), less) refl
in_groups Alphanumeric (suc zero) bits some = refl
in_groups Alphanumeric (suc (suc left)) bits some =
    let less : suc (suc left) - 2 ≡ left = omega arith in rw (le-ltb (suc (suc left)) 2 (omega arith), less) refl
in_groups Byte (suc left) bits some = let less : suc left - 1 ≡ left = omega arith in rw less refl

-- what is found after some bytes that were read
bytes_before : (before bytes : List ℕ) (found : Option (List ℕ × List Bool))
    → after (before ++ bytes) found ≡ after before (found >>= λ others. Some (bytes ++ others.0, others.1))
unfolding after
bytes_before before bytes None = refl
bytes_before before bytes (Some others) =
    ap (λ (all : List ℕ). Some (all, others.1)) (append_assoc before bytes others.0)

module _ (before : List ℕ) (mode : Mode) (left : ℕ) (bits : List Bool) where
  pub one_group : (n : ℕ) (rest : List Bool) → 0 < left
      → Some (n, rest) ≡ number_at (next_group mode left).limit (next_group mode left).width bits
      → after before (payload_at mode left bits)
      ≡ after (before ++ group_bytes mode left n) (payload_at mode (left - (next_group mode left).size) rest)
  one_group n rest some found = rw (in_groups mode left bits some, ← found)
      (sym (bytes_before before (group_bytes mode left n) (payload_at mode (left - (next_group mode left).size) rest)))

  pub no_group : 0 < left → None ≡ number_at (next_group mode left).limit (next_group mode left).width bits
      → after before (payload_at mode left bits) ≡ None
  unfolding after
  no_group some found = rw (in_groups mode left bits some, ← found) refl

  pub all_groups : left ≡ 0 → after before (payload_at mode left bits) ≡ Some (before, bits)
  unfolding after digits_at characters_at bytes_at
  all_groups none = rw none (at_end mode)
    where
      at_end : (mode : Mode) → after before (payload_at mode 0 bits) ≡ Some (before, bits)
      at_end Numeric = ap (λ (all : List ℕ). Some (all, bits)) (append-nil before)
      at_end Alphanumeric = ap (λ (all : List ℕ). Some (all, bits)) (append-nil before)
      at_end Byte = ap (λ (all : List ℕ). Some (all, bits)) (append-nil before)
