use Rattle.std.proofs.Common.{drop, map, ◌≡◌}
use Rattle.clap.specs.Words.{app_of}
use Rattle.command.specs.CommandLine.{command_line}
use Rattle.command.specs.Private.Rules.{rule}
use Rattle.command.proofs.RuleLaws.{with_rules}
use Rattle.command.proofs.command_line.command.Given as goal

-- the command so far, with the rules of the rows to come
abbrev pub invariant-loop-argument : goal.invariant-loop-argument
invariant-loop-argument l =
    with_rules (app_of l.command) (map rule (drop l.argument-index l.argument-items)) ≡ command_line
