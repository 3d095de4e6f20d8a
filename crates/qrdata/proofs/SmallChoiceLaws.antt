-- The choices of at most 657 bytes leave room for one byte more.
use Rattle.std.proofs.Common.{ℕ, ◌+◌, ◌*◌, ◌≤◌, List, ◌∷◌, length, arith}
use Rattle.qrdata.specs.declared.mode.Mode.{Mode}
use Rattle.qrdata.specs.declared.segmentation.Choices.{Choices}
use Rattle.qrdata.specs.declared.segmentation.TheConstants.{ABSENT}
use Rattle.qrdata.specs.Private.ChoiceView.{ChoiceView}
use Rattle.qrdata.specs.Private.Table.{AreSmall, Each, IsSmall, choices_of, fewest_bits, longer_choice, short_choice}
use Rattle.qrdata.proofs.BestChoiceLaws.{fewest_bits-le, short_bits}
use Rattle.qrdata.proofs.ChoiceClassLaws.{IsKept, each_choice}
use Rattle.qrdata.proofs.ChoiceOrderLaws.{better-one}

-- the most that a choice of at most `n` bytes has
abbrev IsWithin : ℕ → ChoiceView → Type 0
IsWithin n c = (c.segment.len ≤ n) × (c.bits ≤ ABSENT + 28 * n)

IsWithin-kept : (version : ℕ) → IsKept version (λ bytes mode class. IsWithin (length bytes))
IsWithin-kept version = record {
  none = λ bytes mode class none. (omega arith, omega arith);
  longer = λ b yes steps old other. (omega (arith, old.0), omega (arith, old.1, steps.few));
  shorter = λ b {bytes} {mode} {added = added} {c = c} yes steps old one.
      better-one (IsWithin (length (b ∷ bytes))) (longer_choice c added)
      (short_choice version mode (fewest_bits version bytes)) (omega (arith, old.0), omega (arith, old.1, steps.few))
      (omega arith, omega (arith, short_bits version mode, fewest_bits-le version bytes));
}

Each-weaker : (P R : Mode → ℕ → ChoiceView → Type 0)
    → ((mode : Mode) (class : ℕ) (c : ChoiceView) → P mode class c → R mode class c) → (choices : Choices)
    → Each P choices → Each R choices
Each-weaker P R weaker choices all = (
  (weaker _ _ _ all.0.0, weaker _ _ _ all.0.1, weaker _ _ _ all.0.2),
  (weaker _ _ _ all.1.0, weaker _ _ _ all.1.1),
  weaker _ _ _ all.2,
)

pub AreSmall-of : (version : ℕ) (bytes : List ℕ) → length bytes ≤ 657 → AreSmall (choices_of version bytes)
AreSmall-of version bytes few =
    let small = Each-weaker (λ mode class. IsWithin (length bytes)) (λ mode class. IsSmall)
    (λ mode class c within. (omega (arith, within.0), omega (arith, within.1))) (choices_of version bytes)
    (each_choice (IsWithin-kept version) bytes) in
    (small.0, small.1, small.2, omega (arith, fewest_bits-le version bytes))
