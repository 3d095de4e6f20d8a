-- Data of digits alone is one segment in numeric mode.
use Rattle.std.proofs.Common.{◌≡◌, ℕ, ◌+◌, ◌^◌, ◌<◌, ◌≤◌, List, [], ◌∷◌, drop, length, refl, sym, subst, ap}
use Rattle.std.proofs.Common.{◌∙◌, arith}
use Rattle.std.proofs.Common.{true, false, inl, inr, cond}
use Rattle.std.specs.Prelude.{IsTrue, nat_lt}
use Rattle.std.specs.Char.{is_ascii_digit}
use Rattle.std.specs.List.{list_all}
use Rattle.std.proofs.lemmas.Bool.{cases_lt}
use Rattle.std.proofs.lemmas.List.{drop_all, length-drop, take_all}
use Rattle.std.proofs.lemmas.List.Sums.{sum_by-cons}
use Rattle.qrdata.specs.declared.mode.Mode.{Mode}
use Rattle.qrdata.specs.declared.mode.Mode.TheVariants.{Numeric, Alphanumeric, Byte}
use Rattle.qrdata.specs.declared.mode.Segment.{Segment}
use Rattle.qrdata.specs.Fewest.{chosen_segments}
use Rattle.qrdata.specs.Private.SmallestPlan.{AreDigits, SameWidths}
use Rattle.qrdata.specs.Segments.{IsSegmentation, cost, count_width, payload_length}
use Rattle.qrdata.specs.Segments.{segment_length, segment_of}
use Rattle.qrdata.proofs.ChoiceLimitLaws.{rising, same_mode}
use Rattle.qrdata.proofs.Laws.FewestBitsLaws.{chosen_segments-best, chosen_segments-is, chosen_segments-nil}
use Rattle.qrdata.proofs.Laws.FewestBitsLaws.{continued, cost-continued}

-- no segment has fewer bits than one in numeric mode of its length
numeric_least : (version : ℕ) (mode : Mode) (n : ℕ) → 0 < n
    → segment_length version (segment_of Numeric n) ≤ segment_length version (segment_of mode n)
numeric_least version Numeric n some = omega arith
numeric_least version Alphanumeric n some = omega (arith, rising version n some)
numeric_least version Byte n some = omega (arith, rising version n some)

-- and no list of segments has fewer than one segment in numeric mode of all the bytes
numeric_below : (version : ℕ) (segments : List Segment) (bytes : List ℕ) → IsSegmentation version segments bytes
    → 0 < length bytes → segment_length version (segment_of Numeric (length bytes)) ≤ cost version segments
numeric_below version [] bytes cut some = absurd (omega (arith, ap length cut))
numeric_below version (s ∷ segments) bytes cut some =
    let first = numeric_least version s.mode s.len cut.0.some in
    let sum = sum_by-cons (segment_length version) s segments in
    elim (cases_lt s.len (length bytes)) [
      | inl more ↦
          let rest = drop s.len bytes in
          let size = length-drop s.len bytes in
          let later = numeric_below version segments rest cut.1 (omega (arith, size)) in
          omega (arith, first, sum, size, later)
      | inr all ↦
          let whole : s.len ≡ length bytes = omega (arith, cut.0.inside) in
          omega (arith, first, sum, whole)
    ]

-- a count of digits that a table is made for
counted : (version n : ℕ) → n ≤ 657 → n < 2 ^ count_width version Numeric
counted version n few = elim (nat_lt version 10) as (λ t. n < 2 ^ cond t 10 12)
    [ true ↦ omega arith | false ↦ omega arith ]

chosen_of_some : (version b : ℕ) (bytes : List ℕ) → IsTrue (list_all is_ascii_digit (b ∷ bytes))
    → length (b ∷ bytes) ≤ 657
    → chosen_segments version (b ∷ bytes) ≡ segment_of Numeric (length (b ∷ bytes)) ∷ []
chosen_of_some version b bytes digits few =
    let all = b ∷ bytes in
    let n = length all in
    let t = segment_of Numeric n in
    let best = chosen_segments-best version b bytes in
    let r = best.first in
    let nothing : drop n all ≡ [] = drop_all n all (omega arith) in
    let alone : continued version all t ≡ t ∷ [] = rw (nothing, chosen_segments-nil version) refl in
    let listed = best.low t (record {
      some = omega arith;
      inside = omega arith;
      characters = subst (λ (l : List ℕ). IsTrue (list_all is_ascii_digit l)) (sym (take_all n all (omega arith))) digits;
      counted = counted version n few;
    }) in
    let least = numeric_below version (chosen_segments version all) all (chosen_segments-is version all) (omega arith) in
    let best_cost = ap (cost version) best.is in
    let whole_cost : cost version (continued version all t) ≡ segment_length version t =
    omega (arith, ap (cost version) alone) in
    let len : r.len ≡ n = elim (cases_lt r.len n) [
      | inl shorter ↦ absurd (omega (arith, listed.1 shorter, best_cost, whole_cost, least))
      | inr more ↦ omega (arith, best.fits.inside)
    ] in
    let rest_cost : cost version (chosen_segments version (drop r.len all)) ≡ 0 =
    rw (len, nothing, chosen_segments-nil version) refl in
    let mode : r.mode ≡ Numeric = same_mode version n r.mode Numeric (omega arith) (omega (
      arith,
      listed.0,
      best_cost,
      whole_cost,
      least,
      cost-continued version all r,
      rest_cost,
      ap (λ m. segment_length version (segment_of r.mode m)) len,
    )) in
    best.is ∙ (λ i. continued version all (segment_of (mode i) (len i))) ∙ alone

pub chosen_of_digits : (version len : ℕ) (bytes : List ℕ) → AreDigits len bytes → 0 < len → len ≤ 657
    → chosen_segments version bytes ≡ segment_of Numeric len ∷ []
chosen_of_digits version len [] are some few = absurd (omega (arith, are.size))
chosen_of_digits version len (b ∷ bytes) are some few =
    chosen_of_some version b bytes are.digits (omega (arith, are.size))
    ∙ ap (λ n. segment_of Numeric n ∷ []) are.size

-- it has as many bits in each version whose character counts are as wide
pub digits_bits : (v w len : ℕ) → SameWidths v w
    → cost v (segment_of Numeric len ∷ []) ≡ 4 + count_width w Numeric + payload_length Numeric len
digits_bits v w len same = omega (arith, same Numeric)
