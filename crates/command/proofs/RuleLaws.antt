-- The rules of a command as arguments are added.
use Rattle.std.proofs.Common.{◌≡◌, ◌∙◌, ◌+◌, ◌<◌, ℕ, ap, sym, drop, false, get_or, length, map, List, [], ◌∷◌}
use Rattle.std.proofs.lemmas.List.{drop_more}
use Rattle.clap.specs.Built.{AddsArg}
use Rattle.clap.specs.Words.{App, Rule, app_of, rule_of, with_rule}
use Rattle.clap.specs.declared.builder.arg.Arg.{Arg}
use Rattle.clap.specs.declared.builder.command.Command.{Command}
use Rattle.command.specs.Private.Rules.{rule}
use Rattle.command.specs.declared.command_line.Argument.{Argument}

-- a command with these rules more, after its own
abbrev pub with_rules : App → List Rule → App
with_rules app [] = app
with_rules app (rule ∷ rules) = with_rules (with_rule app rule) rules

-- a command with the rules of the rows to come stays the same when it takes on the next of them; one turn of the loop
-- has these values and facts, so they are arguments
pub row_added : (old new : Command) (argument : Arg) (table : List Argument) (place : ℕ) (row : Argument) (app : App)
    → place < length table → AddsArg old argument new → rule_of argument ≡ rule (get_or table place row)
    → argument.global ≡ false
    → with_rules (app_of old) (map rule (drop place table)) ≡ app
    → with_rules (app_of new) (map rule (drop (place + 1) table)) ≡ app
row_added old new argument table place row app inside adds is local so_far =
    ap (λ a. with_rules a (map rule (drop (place + 1) table))) (adds.shape local ∙ ap (with_rule (app_of old)) is)
    ∙ sym (ap (λ rest. with_rules (app_of old) (map rule rest)) (drop_more table place row inside)) ∙ so_far
