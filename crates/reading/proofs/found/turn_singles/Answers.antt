use Rattle.filter.specs.Symbol.{quiet_zone}
use Rattle.labelcore.specs.declared.symbology.Symbology.TheVariants.{Qr}
use Rattle.reading.specs.Private.{modules_in}
use Rattle.reading.proofs.SquareLaws.{singles_turned}
use Rattle.reading.proofs.found.turn_singles.Goals as goal

pub returns-in-Some : goal.returns-in-Some
returns-in-Some c = λ p shows.
    let shown = rw c.in-Some.is at shows in
    singles_turned p c.turn.new.self shown.0 (c.turn.ensures (modules_in p 1 (quiet_zone Qr)) shown.1)
