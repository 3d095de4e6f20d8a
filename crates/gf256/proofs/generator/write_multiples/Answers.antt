use Rattle.std.proofs.Common.{◌≡◌, ◌+◌, ◌*◌, ◌<◌, ◌∙◌, ℕ, List, ap, arith, get_or, inl, inr, length}
use Rattle.std.specs.Prelude.{All}
use Rattle.std.proofs.lemmas.Bool.{cases_lt}
use Rattle.std.proofs.lemmas.Grind.{common_steps}
use Rattle.std.proofs.lemmas.List.{length-set}
use Rattle.std.proofs.lemmas.List.Elements.{All-from_get_or}
use Rattle.gf256.specs.Field.{IsElement}
use Rattle.gf256.specs.Polynomial.{polynomial_sum, scalar_multiple}
use Rattle.gf256.specs.Private.{zeros}
use Rattle.gf256.proofs.RegisterLaws.{multiple-even, multiple-odd, scalar_multiple-one, scalar_multiple-zero}
use Rattle.gf256.proofs.generator.write_multiples.Goals as goal

elements : (p : List ℕ) → ((j : ℕ) → get_or p j 0 < 256) → All IsElement p
elements p fits = All-from_get_or IsElement p 0 (λ j h. fits j)

pub loop-i-init : goal.loop-i-init
loop-i-init c =
    let p = c.args.polynomial.now in
    let old = c.args.multiples.now in
    let long : length p ≡ 32 = omega arith in
    let whole : length old ≡ 16 = omega arith in
    let zero : scalar_multiple 0 p ≡ zeros 32 = scalar_multiple-zero p ∙ ap zeros long in
    let one = scalar_multiple-one p (elements p c.fits-polynomial) in
    let size = length-set old 0 (zeros 32) ∙ whole in (
      length-set _ 1 p ∙ size,
      λ n h. elim (cases_lt n 1) [
        | inl first ↦ let none : n ≡ 0 = omega arith in rw none (grind (arith, common_steps, zero, size, whole))
        | inr second ↦ let is : n ≡ 1 = omega arith in rw is (grind (arith, common_steps, one, size, whole))
      ],
    )

pub loop-i-preserved : goal.loop-i-preserved
loop-i-preserved c =
    let p = c.args.polynomial.now in
    let i = c.loop-i.i in
    let old = c.loop-i.multiples in
    let double : c.doubled-even.result ≡ scalar_multiple 2 (scalar_multiple i p) =
    c.doubled-even.ensures ∙ ap (scalar_multiple 2) (c.loop-i.invariant.1 i (omega arith)) in
    let even = double ∙ multiple-even i p (omega arith) (elements p c.fits-polynomial) in
    let odd = c.sum_of.ensures ∙ ap (λ l. polynomial_sum l p) double
    ∙ multiple-odd i p (omega arith) (elements p c.fits-polynomial) in
    let long = length-set old (2 * i + 1) c.sum_of.result ∙ c.loop-i.invariant.0 in
    let before = c.loop-i.invariant.1 in
    (length-set _ (2 * i) c.doubled-even.result ∙ long, λ n h. grind (arith, common_steps, even, odd, long, before))
