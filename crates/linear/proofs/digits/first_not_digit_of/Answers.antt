use Rattle.std.proofs.Common.{arith}
use Rattle.std.specs.Char.{is_ascii_digit}
use Rattle.std.proofs.lemmas.Grind.{common_steps}
use Rattle.linear.proofs.Laws.DigitLaws.{first_behind}
use Rattle.linear.proofs.digits.first_not_digit_of.Goals as goal

pub returns-then-are_digits : goal.returns-then-are_digits
returns-then-are_digits c =
    let behind = first_behind is_ascii_digit c.args.bytes.now c.args.count in
    grind (arith, common_steps, behind)
