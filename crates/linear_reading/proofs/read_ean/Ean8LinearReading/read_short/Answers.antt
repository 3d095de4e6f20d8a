use Rattle.std.proofs.Common.{rules, ◌≡◌, ◌++◌, None, Some, sym, subst, refl}
use Rattle.linear.specs.declared.ean.NumberSet.TheVariants.{A}
use Rattle.linear.specs.EanReading.{digit_in, read_halves}
use Rattle.linear.specs.Private.Data.{AreDigits}
use Rattle.linear.proofs.Laws.ReadRowLaws.{ean8_digits}
use Rattle.linear_reading.proofs.read_ean.Ean8LinearReading.read_short.Goals as goal

pub returns-in_err-left : goal.returns-in_err-left
returns-in_err-left c =
    let none : None ≡ read_halves 4 (digit_in A) c.args.row.now = c.in_err-left.ensures (digit_in A) (search rules) in
    rw (c.from_residual.ensures, ← none) refl

pub checked-requires-clause-digits : goal.checked-requires-clause-digits
checked-requires-clause-digits c =
    let joined : c.in_ok-left.left.items ++ c.in_ok-left.right.items ≡ c.deref-3.result.now = search rules in
    subst (AreDigits 8) joined
    (ean8_digits c.args.row.now _ (sym (c.in_ok-left.ensures (digit_in A) (search rules))))

pub returns : goal.returns
returns c =
    let joined : c.deref-3.result.now ≡ c.in_ok-left.left.items ++ c.in_ok-left.right.items = search rules in
    let halves : Some (c.in_ok-left.left.items, c.in_ok-left.right.items) ≡ read_halves 4 (digit_in A) c.args.row.now =
    c.in_ok-left.ensures (digit_in A) (search rules) in
    rw (c.checked.ensures, ← halves, joined) refl
