-- What `options_of` returns (docs/SPECIFICATION.md, Options).
use Rattle.std.specs.Prelude.{◌≡◌, Result, Ok, Err, option_map, string_bytes}
use Rattle.command.specs.CommandLine.{Invocation, run, help, bad}
use Rattle.command.specs.declared.arguments.Choice.{Choice}
use Rattle.command.specs.declared.arguments.WordsFault.{WordsFault}
use Rattle.command.specs.declared.arguments.WordsFault.TheVariants.{Help, Bad, Memory}

-- the fault is `Memory`, `Help` where the arguments ask for help, or `Bad` where the command does not take them
abbrev pub Refuses : Invocation → WordsFault → Type 0
Refuses _ Memory = Unit {0}
Refuses help (Help text) = Unit {0}
Refuses bad Bad = Unit {0}
Refuses _ _ = ⊥

-- the result is what the arguments ask for, or memory ran out
abbrev pub Chooses : Invocation → Result Choice WordsFault → Type 0
Chooses invocation (Err fault) = Refuses invocation fault
Chooses (run options name) (Ok choice) = (choice.options ≡ options) × (option_map string_bytes choice.file ≡ name)
Chooses _ (Ok choice) = ⊥
