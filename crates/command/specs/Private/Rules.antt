-- How the command is put together.
use Rattle.clap.specs.Words.{Rule, Text, new_rule}
use Rattle.command.specs.CommandLine.{number_option, switch, text_option}
use Rattle.command.specs.declared.command_line.Argument.{Argument}
use Rattle.command.specs.declared.command_line.Takes.{Takes}
use Rattle.command.specs.declared.command_line.Takes.TheVariants as takes

-- the rule of an argument of this name
abbrev pub rule_named : Text → Takes → Rule
rule_named name (takes.Text value) = text_option name
rule_named name (takes.Number value bounds) = number_option name bounds.low bounds.high
rule_named name takes.Nothing = switch name
rule_named name (takes.File value) = record (new_rule name) { value_names = 1 }

-- the rule of an argument of the table
abbrev pub rule : Argument → Rule
rule argument = rule_named argument.name.now argument.takes
