use Rattle.std.proofs.Common.{◌≡◌, ◌++◌, ℕ, List, codes, decimal, append_assoc}
use Rattle.labelcore.proofs.message.append_rest.Goals as goal

pub returns-in-WrongCheckDigit-clause-text : goal.returns-in-WrongCheckDigit-clause-text
returns-in-WrongCheckDigit-clause-text c =
    rw (
      c.append_number-in-WrongCheckDigit.ensures.text,
      c.push_str.ensures.bytes,
      c.append_number.ensures.text,
      c.in-WrongCheckDigit.is,
    )
    (three c.args.text.now.bytes (decimal c.in-WrongCheckDigit.given) (codes ", should be ")
    (decimal c.in-WrongCheckDigit.right)) where
      three : (t a b d : List ℕ) → ((t ++ a) ++ b) ++ d ≡ t ++ (a ++ (b ++ d))
      three t a b d = simp append_assoc

pub returns-in-NotAscii-clause-text : goal.returns-in-NotAscii-clause-text
returns-in-NotAscii-clause-text c =
    rw (c.push_str-in-NotAscii.ensures.bytes, c.append_number-in-NotAscii.ensures.text, c.in-NotAscii.is)
    (append_assoc c.args.text.now.bytes (decimal c.in-NotAscii.place) (codes " is not ASCII"))
