-- The two parts of a message, as the code appends them.
use Rattle.std.specs.Prelude.{ℕ, List, [], ◌++◌, codes, decimal}
use Rattle.labelcore.specs.declared.fault.Fault.{Fault}
use Rattle.labelcore.specs.declared.fault.Fault.TheVariants.{LineTooLong, UnknownSymbology, NoData, BadEscape}
use Rattle.labelcore.specs.declared.fault.Fault.TheVariants.{NotADigit, WrongNumberOfDigits, WrongCheckDigit}
use Rattle.labelcore.specs.declared.fault.Fault.TheVariants.{DataTooLong, NotAscii, DoesNotFit, UnknownSetting}
use Rattle.labelcore.specs.declared.fault.Fault.TheVariants.{BadValue}
use Rattle.labelcore.specs.Message.{level_letter}

-- what comes after the words before the first number or the level
abbrev pub words_after : Fault → List ℕ
words_after LineTooLong = []
words_after UnknownSymbology = []
words_after NoData = []
words_after (BadEscape place) = decimal place
words_after (NotADigit place) = decimal place
words_after (WrongNumberOfDigits count) = decimal count
words_after (WrongCheckDigit is right) = decimal is ++ (codes ", should be " ++ decimal right)
words_after DataTooLong = []
words_after (NotAscii place) = decimal place ++ codes " is not ASCII"
words_after (DoesNotFit level) = level_letter level
words_after (UnknownSetting number) = decimal number
words_after (BadValue number) = decimal number
