use Rattle.std.proofs.Common.{rules, ◌≡◌, ◌∙◌, None, Some, sym, subst, refl}
use Rattle.linear.specs.EanReading.{digit_in_a_or_b, read_halves}
use Rattle.linear.specs.Private.Data.{AreDigits}
use Rattle.linear.proofs.Laws.ReadRowLaws.{ean13_digits}
use Rattle.linear_reading.proofs.read_ean.Ean13LinearReading.read_short.Goals as goal

pub returns-in_err-left : goal.returns-in_err-left
returns-in_err-left c =
    let none : None ≡ read_halves 6 digit_in_a_or_b c.args.row.now = c.in_err-left.ensures digit_in_a_or_b (search rules) in
    rw (c.from_residual.ensures, ← none) refl

pub returns-in_err-with_first_digit : goal.returns-in_err-with_first_digit
returns-in_err-with_first_digit c =
    let halves : Some (c.deref.result.now, c.deref-2.result.now) ≡ read_halves 6 digit_in_a_or_b c.args.row.now =
    (λ i. Some (c.deref.ensures.0 i, c.deref-2.ensures.0 i)) ∙ c.in_ok-left.ensures digit_in_a_or_b (search rules) in
    rw (c.from_residual-in_err-with_first_digit.ensures, ← halves, ← c.in_err-with_first_digit.ensures) refl

pub checked-requires-clause-digits : goal.checked-requires-clause-digits
checked-requires-clause-digits c =
    subst (AreDigits 13) (sym c.deref-3.ensures.0) (ean13_digits c.args.row.now (c.deref.result.now, c.deref-2.result.now) _
    (sym ((λ i. Some (c.deref.ensures.0 i, c.deref-2.ensures.0 i))
    ∙ c.in_ok-left.ensures digit_in_a_or_b (search rules))) (sym c.in_ok-with_first_digit.ensures))

pub returns : goal.returns
returns c =
    let halves : Some (c.deref.result.now, c.deref-2.result.now) ≡ read_halves 6 digit_in_a_or_b c.args.row.now =
    (λ i. Some (c.deref.ensures.0 i, c.deref-2.ensures.0 i)) ∙ c.in_ok-left.ensures digit_in_a_or_b (search rules) in
    rw (c.checked.ensures, ← halves, ← c.in_ok-with_first_digit.ensures, c.deref-3.ensures.0) refl
