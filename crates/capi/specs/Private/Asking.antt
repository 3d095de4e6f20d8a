-- What a call asks for, as the code has it: nothing here has to be believed.
use Rattle.std.specs.Prelude.{◌≢◌, [], Result, Ok, Err, ⊤}
use Rattle.labelcore.specs.ItemView.{item_seen}
use Rattle.labelcore.specs.LineItem.{Outcome, Request, drawn}
use Rattle.labelcore.specs.OptionValues.{LabelValues}
use Rattle.capi.specs.Calls.{Asked}
use Rattle.capi.specs.declared.asked.Asked.{Asked as AskedInCode}
use Rattle.capi.specs.declared.asked.Reason.{Reason}

-- what a call asks for
abbrev pub asked_seen : Result AskedInCode Reason → Result Asked Reason
asked_seen (Err reason) = Err reason
asked_seen (Ok a) = Ok (record { run = a.run; item = item_seen a.item })

-- what is drawn has data
abbrev pub HasBytes : Outcome Request → Type 0
HasBytes (drawn request) = request.bytes ≢ []
HasBytes other = ⊤

-- the options of a symbol that has one row where it is linear
abbrev pub one_row : LabelValues → LabelValues
one_row label = record label { height = 1 }
