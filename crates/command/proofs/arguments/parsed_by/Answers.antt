use Rattle.std.proofs.Common.{◌≡◌, ◌∙◌, ◌⊎◌, ap, refl, sym, subst, map, string_bytes, [], inl, inr}
use Rattle.clap.specs.Words.{App, app_of, fault_of, found_of, is_simple, is_simple_and_free, matches_of}
use Rattle.clap.specs.Words.{rows_of}
use Rattle.command.specs.Choosing.{Chooses}
use Rattle.command.specs.CommandLine.{Invocation, command_line, invocation_by, invocation_of, run_of}
use Rattle.command.proofs.OneKindLaws.{one_kind}
use Rattle.command.proofs.ParsedLaws.{built_or_broken, refused, values_hold}
use Rattle.command.proofs.arguments.parsed_by.Goals as goal

first : {A B : Type 0} → A ⊎ B → (B → ⊥) → A
first (inl a) none = a
first (inr b) none = absurd (none b)

pub choice_of-requires : goal.choice_of-requires
choice_of-requires c =
    let build = c.build.ensures in
    let parse = c.in-Ok.ensures in
    let is = first (built_or_broken _ _ c.build.result c.requires build.shape build.err) (λ e. parse.broken e) in
    values_hold c.build.new.self c.in-Ok.matches is parse.parsed

pub returns-in-Ok : goal.returns-in-Ok
returns-in-Ok c =
    let arguments = map string_bytes c.args.arguments.now in
    let build = c.build.ensures in
    let parse = c.in-Ok.ensures in
    let is = first (built_or_broken _ _ c.build.result c.requires build.shape build.err) (λ e. parse.broken e) in
    let none : fault_of command_line arguments ≡ [] =
    ap (λ (a : App). fault_of a arguments) (sym is) ∙ parse.kinds (ap is_simple_and_free is) in
    let rows : rows_of (found_of c.in-Ok.matches) ≡ matches_of command_line arguments =
    (parse.matches (ap is_simple is)).0 ∙ ap (λ (a : App). matches_of a arguments) is in
    let asks : run_of (rows_of (found_of c.in-Ok.matches)) ≡ invocation_of arguments =
    ap run_of rows ∙ ap (λ k. invocation_by k (matches_of command_line arguments)) (sym none) in
    subst (λ (r : Invocation). Chooses r c.choice_of.result) asks c.choice_of.ensures

pub returns-in-Err : goal.returns-in-Err
returns-in-Err c =
    let arguments = map string_bytes c.args.arguments.now in
    let parse = c.in-Err.ensures in
    elim (built_or_broken _ _ c.build.result c.requires c.build.ensures.shape c.build.ensures.err) [
      | inl is ↦
          let kinds = parse.kinds (ap is_simple_and_free is) in
          let same : fault_of (app_of c.build.new.self) arguments ≡ fault_of command_line arguments =
          ap (λ (a : App). fault_of a arguments) is in
          refused (fault_of command_line arguments) (matches_of command_line arguments) c.in-Err.error
          c.fault_of.result (one_kind command_line arguments refl refl) (rw same at kinds) c.fault_of.ensures.memory
          c.fault_of.ensures.other
      | inr broken ↦ rw (c.fault_of.ensures.memory (parse.broken broken)) tt
    ]
