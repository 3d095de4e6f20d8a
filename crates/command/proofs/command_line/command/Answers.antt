use Rattle.std.proofs.Common.{◌∙◌, arith, map, sym}
use Rattle.std.proofs.lemmas.List.{at_drop_all}
use Rattle.clap.specs.Words.{app_of}
use Rattle.command.specs.Private.Rules.{rule}
use Rattle.command.proofs.RuleLaws.{row_added, with_rules}
use Rattle.command.proofs.command_line.command.Goals as goal

pub loop-argument-preserved : goal.loop-argument-preserved
loop-argument-preserved c =
    row_added c.loop-argument.command c.in_ok-command.command c.arg_of.result _ c.loop-argument.argument-index _ _
    c.loop-argument-test.true c.in_ok-command.ensures c.arg_of.ensures.rule c.arg_of.ensures.local
    c.loop-argument.invariant

pub returns : goal.returns
returns c =
    sym (at_drop_all (λ rows. with_rules (app_of c.loop-argument.command) (map rule rows)) _
    c.loop-argument.argument-index (omega (arith, c.loop-argument-test.false))) ∙ c.loop-argument.invariant
