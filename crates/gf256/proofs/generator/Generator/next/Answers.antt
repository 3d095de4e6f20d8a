use Rattle.std.proofs.Common.{◌≡◌, ℕ, ◌/◌, ◌%◌, ◌<◌, List, [], ◌∷◌, ◌∙◌, ◌++◌, ap, arith, drop, get_or, length}
use Rattle.std.proofs.Common.{Fits, w8}
use Rattle.std.specs.Prelude.{bit_xor}
use Rattle.std.proofs.lemmas.Grind.{get_or_default_zero}
use Rattle.std.proofs.lemmas.List.{length-append, length-drop}
use Rattle.std.proofs.lemmas.Nat.{xor_of_8}
use Rattle.std.proofs.lemmas.Simd.{Each1-get_or}
use Rattle.gf256.specs.Polynomial.{polynomial_sum, scalar_multiple}
use Rattle.gf256.specs.Private.{next_register, padded_generator}
use Rattle.gf256.proofs.Laws.GeneratorLaws.{All-padded_generator, length-padded_generator}
use Rattle.gf256.proofs.RegisterLaws.{zip2-parts}
use Rattle.gf256.proofs.generator.Generator.next.Goals as goal

-- what is fed back is the sum of the first codeword of the register and the new one
feedback : (register : List ℕ) (codeword first fed : ℕ) → 0 < length register → get_or register 0 0 < 256
    → codeword < 256 → first ≡ get_or register 0 first → fed ≡ bit_xor first codeword
    → (fed ≡ bit_xor (get_or register 0 0) codeword) × (fed < 256)
feedback register codeword first fed some fits small is e =
    let element = xor_of_8 (get_or register 0 0) codeword fits small in
    let sum : fed ≡ bit_xor (get_or register 0 0) codeword =
    e ∙ ap (λ r. bit_xor r codeword) (is ∙ get_or_default_zero register 0 first some) in
    (sum, omega (arith, element, sum))

pub returns : goal.returns
unfolding next_register
returns c =
    let fed = c.from-feedback.result in
    let low = get_or c.self.inside.low (fed % 16) [] in
    let high = get_or c.self.inside.high (fed / 16) [] in
    let moved = drop 1 c.args.register ++ 0 ∷ [] in
    let divisor = padded_generator c.self.inside.count in
    let some : 0 < length c.args.register = omega (arith, c.fits-register.0) in
    let element = feedback c.args.register c.args.codeword c.index.result.now c.from-feedback.result
    some (Each1-get_or (Fits w8) c.args.register 0 0 some c.fits-register.1).fits c.ranges.codeword.fits
    c.index.ensures c.from-feedback.ensures in
    let is_low = c.self.invariant.1 (fed % 16) (omega arith) in
    let is_high = c.self.invariant.2 (fed / 16) (omega (arith, element.1)) in
    let long = length-padded_generator c.self.inside.count c.self.invariant.0 in
    zip2-parts c.moved_up.result low high divisor fed element.1 (All-padded_generator c.self.inside.count)
    (ap length c.moved_up.ensures ∙ length-append (drop 1 c.args.register) (0 ∷ [])
    ∙ omega (arith, long, length-drop 1 c.args.register, c.fits-register.0)) is_low is_high
    ∙ (λ i. polynomial_sum (c.moved_up.ensures i) (scalar_multiple (element.0 i) (padded_generator (c.self.view_is i))))
