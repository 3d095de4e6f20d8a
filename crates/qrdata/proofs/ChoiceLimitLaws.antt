-- Where the fewest bits fit, the best choices begin the best lists, and no segment reaches the limit of its character
-- count.
use Rattle.std.proofs.Common.{◌≡◌, ℕ, zero, suc, ◌+◌, ◌*◌, ◌/◌, ◌^◌, ◌<◌, ◌≤◌, List, [], ◌∷◌, drop, length, refl, sym}
use Rattle.std.proofs.Common.{ap, ◌∙◌, arith, true, false, inl, inr, cond}
use Rattle.std.specs.Prelude.{nat_lt}
use Rattle.std.proofs.lemmas.Bool.{cases_lt}
use Rattle.std.proofs.lemmas.List.{length-drop}
use Rattle.qrdata.specs.declared.mode.Mode.{Mode}
use Rattle.qrdata.specs.declared.mode.Mode.TheVariants.{Numeric, Alphanumeric, Byte}
use Rattle.qrdata.specs.declared.mode.Segment.{Segment}
use Rattle.qrdata.specs.Fewest.{chosen_segments}
use Rattle.qrdata.specs.Segments.{IsFirstSegment, cost, count_width, segment_length, segment_of}
use Rattle.qrdata.specs.Private.Table.{choices_of, fewest_bits}
use Rattle.qrdata.proofs.BestChoiceLaws.{best-front, best-le, fewest_bits-le_cost, fewest_nil}
use Rattle.qrdata.proofs.Laws.FewestBitsLaws.{chosen_segments-best, chosen_segments-is, chosen_segments-nil}
use Rattle.qrdata.proofs.Laws.FewestBitsLaws.{continued, cost-continued}
use Rattle.qrdata.proofs.Laws.VersionLaws.{widest}

-- a segment that fits is below the limit of its character count
short_enough : (version : ℕ) (mode : Mode) (n : ℕ) → segment_length version (segment_of mode n) ≤ widest version
    → n < 2 ^ count_width version mode
short_enough version Numeric n = elim (nat_lt version 10) as
    (λ t. 4 + cond t 10 12 + (10 * n + 2) / 3 ≤ cond (nat_lt (cond t 8 16) 16) 1856 2192 → n < 2 ^ cond t 10 12)
    [ true ↦ λ h. omega arith | false ↦ λ h. omega arith ]
short_enough version Alphanumeric n = elim (nat_lt version 10) as
    (λ t. 4 + cond t 9 11 + (11 * n + 1) / 2 ≤ cond (nat_lt (cond t 8 16) 16) 1856 2192 → n < 2 ^ cond t 9 11)
    [ true ↦ λ h. omega arith | false ↦ λ h. omega arith ]
short_enough version Byte n = elim (nat_lt version 10) as
    (λ t. 4 + cond t 8 16 + 8 * n ≤ cond (nat_lt (cond t 8 16) 16) 1856 2192 → n < 2 ^ cond t 8 16)
    [ true ↦ λ h. omega arith | false ↦ λ h. omega arith ]

-- of segments of one length one in numeric mode is the shortest, and one in byte mode the longest
pub rising : (version n : ℕ) → 0 < n
    → (segment_length version (segment_of Numeric n) < segment_length version (segment_of Alphanumeric n))
    × (segment_length version (segment_of Alphanumeric n) < segment_length version (segment_of Byte n))
rising version n some = elim (nat_lt version 10) as (λ t. (4 + cond t 10 12 + (10 * n + 2) / 3
    < 4 + cond t 9 11 + (11 * n + 1) / 2) × (4 + cond t 9 11 + (11 * n + 1) / 2 < 4 + cond t 8 16 + 8 * n))
    [ true ↦ (omega arith, omega arith) | false ↦ (omega arith, omega arith) ]

-- so segments of one length and as many bits have one mode
pub same_mode : (version n : ℕ) (a b : Mode) → 0 < n
    → segment_length version (segment_of a n) ≡ segment_length version (segment_of b n) → a ≡ b
same_mode version n Numeric Numeric some same = refl
same_mode version n Numeric Alphanumeric some same = absurd (omega (arith, rising version n some))
same_mode version n Numeric Byte some same = absurd (omega (arith, rising version n some))
same_mode version n Alphanumeric Numeric some same = absurd (omega (arith, rising version n some))
same_mode version n Alphanumeric Alphanumeric some same = refl
same_mode version n Alphanumeric Byte some same = absurd (omega (arith, rising version n some))
same_mode version n Byte Numeric some same = absurd (omega (arith, rising version n some))
same_mode version n Byte Alphanumeric some same = absurd (omega (arith, rising version n some))
same_mode version n Byte Byte some same = refl

-- the best choice begins the best list, if the best list of the rest has as many bits as it says
begins : (version b : ℕ) (bytes : List ℕ) (t : Segment) → (choices_of version (b ∷ bytes)).best.segment ≡ t
    → cost version (continued version (b ∷ bytes) t) ≡ fewest_bits version (b ∷ bytes)
    → IsFirstSegment version (b ∷ bytes) t
    → continued version (b ∷ bytes) t ≡ chosen_segments version (b ∷ bytes)
begins version b bytes t is sum fits =
    let best = chosen_segments-best version b bytes in
    let r = best.first in
    let rest = drop r.len (b ∷ bytes) in
    let listed = best.low t fits in
    let tabled = best-le version (b ∷ bytes) r.mode r.len
    (record { some = best.fits.some; inside = best.fits.inside; characters = best.fits.characters }) in
    let below = fewest_bits-le_cost version (chosen_segments version rest) rest (chosen_segments-is version rest) in
    let whole = cost-continued version (b ∷ bytes) r in
    let low : fewest_bits version (b ∷ bytes) ≤ cost version (continued version (b ∷ bytes) r) =
    omega (arith, tabled.low) in
    let table_len : (choices_of version (b ∷ bytes)).best.segment.len ≡ t.len = ap (λ (u : Segment). u.len) is in
    let len : r.len ≡ t.len = elim (cases_lt r.len t.len) [
      | inl shorter ↦ absurd (omega (arith, listed.1 shorter))
      | inr more ↦ elim (cases_lt t.len r.len) [
        | inl longer ↦ absurd (omega (arith, listed.0, tabled.strict (omega arith)))
        | inr less ↦ omega arith
      ]
    ] in
    let mode : r.mode ≡ t.mode = same_mode version r.len r.mode t.mode best.fits.some
    (omega (
      arith,
      listed.0,
      cost-continued version (b ∷ bytes) t,
      ap (λ n. cost version (chosen_segments version (drop n (b ∷ bytes)))) len,
      ap (λ n. segment_length version (segment_of t.mode n)) len,
    )) in
    sym (best.is ∙ (λ i. continued version (b ∷ bytes) (segment_of (mode i) (len i))))

-- the fewest bits are those of the best list, if they fit
pub record Agrees (version : ℕ) (bytes : List ℕ) : Type 0 where
  pub bits : fewest_bits version bytes ≡ cost version (chosen_segments version bytes)
  pub first : 0 < length bytes → continued version bytes (choices_of version bytes).best.segment
      ≡ chosen_segments version bytes

agrees_within : (version n : ℕ) (bytes : List ℕ) → length bytes ≤ n → length bytes ≤ 657
    → fewest_bits version bytes ≤ widest version → Agrees version bytes
agrees_within version n [] short few fits =
    record { bits = rw (chosen_segments-nil version) (fewest_nil version); first = λ some. absurd (omega arith) }
agrees_within version zero (b ∷ bytes) short few fits = absurd (omega arith)
agrees_within version (suc n) (b ∷ bytes) short few fits =
    let t = (choices_of version (b ∷ bytes)).best.segment in
    let front = best-front version b bytes few in
    let shorter = length-drop t.len (b ∷ bytes) in
    let rest = agrees_within version n (drop t.len (b ∷ bytes)) (omega (arith, front.run.some)) (omega arith)
    (omega (arith, front.sum)) in
    let sum : cost version (continued version (b ∷ bytes) t) ≡ fewest_bits version (b ∷ bytes) =
    omega (arith, cost-continued version (b ∷ bytes) t, front.sum, rest.bits) in
    let whole = begins version b bytes t refl sum (record {
      some = front.run.some;
      inside = front.run.inside;
      characters = front.run.characters;
      counted = short_enough version t.mode t.len (omega (arith, front.sum));
    }) in
    record { bits = sym sum ∙ ap (cost version) whole; first = λ some. whole }

pub Agrees-if_fits : (version : ℕ) (bytes : List ℕ) → length bytes ≤ 657 → fewest_bits version bytes ≤ widest version
    → Agrees version bytes
Agrees-if_fits version bytes few fits = agrees_within version (length bytes) bytes (omega arith) few fits
