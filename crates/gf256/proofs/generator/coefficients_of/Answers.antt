use Rattle.std.proofs.Common.{◌≡◌, ◌-◌, ◌++◌, ◌∙◌, arith, inl, inr, length, map, refl, sym}
use Rattle.std.proofs.lemmas.Bool.{cases_lt}
use Rattle.std.proofs.lemmas.Grind.{same_number_lists}
use Rattle.std.proofs.lemmas.List.{get_or-append_right, get_or-map, get_or-replicate, get_or_append_left, length-map}
use Rattle.gf256.specs.Field.{alpha, field_power}
use Rattle.gf256.specs.Private.{padded_generator, zeros}
use Rattle.gf256.proofs.Laws.PolynomialSumLaws.{length-append_zeros}
use Rattle.gf256.proofs.generator.coefficients_of.Goals as goal

pub loop-j-init : goal.loop-j-init
loop-j-init c = record {
  whole = refl;
  so_far = λ i none. absurd (omega arith);
  behind = λ i _ inside. get_or-replicate 32 i 0 0 inside;
}

pub returns : goal.returns
unfolding padded_generator
returns c =
    let k = c.args.k in
    let logarithms = c.logarithms_of-logarithms.result.now in
    let low = map (field_power alpha) logarithms in
    let h = c.loop-j.invariant in
    let long : length low ≡ k = omega (arith, length-map logarithms (field_power alpha)) in
    rw (c.logarithms_of-logarithms.ensures.coefficients) (same_number_lists c.loop-j.coefficients (low ++ zeros
    (32 - k))
    (omega (arith, h.whole, length-append_zeros low (32 - k))) (λ i inside. elim (cases_lt i k) [
      | inl before ↦ h.so_far i (omega arith) ∙ sym (get_or_append_left low (zeros (32 - k)) 0 i (omega arith)
          ∙ get_or-map (field_power alpha) logarithms i 0 0 (omega arith))
      | inr past ↦ h.behind i (omega arith) (omega (arith, inside, h.whole))
          ∙ sym (get_or-append_right low (zeros (32 - k)) k i 0 long past
          ∙ get_or-replicate (32 - k) (i - k) 0 0 (omega (arith, inside, h.whole)))
    ]))
