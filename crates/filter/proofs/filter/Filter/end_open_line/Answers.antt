use Rattle.filter.proofs.Laws.Words.{◌≡◌, ◌≢◌, ◌∙◌, [], ◌∷◌, ◌++◌, ap, refl, subst, sym, take, false≢true, LF, open_line}
use Rattle.filter.proofs.Laws.Words.{line_limit, FilterState, IsAfter}
use Rattle.filter.proofs.Laws.FilterLaws.{no_byte, script-ended, script-open}
use Rattle.std.proofs.Math.Seq.{take-nil}
use Rattle.filter.proofs.Laws.ScriptLaws.{Sends-none}
use Rattle.filter.proofs.filter.Filter.end_open_line.Goals as goal

pub returns-then-is_empty-clause-feeds : goal.returns-then-is_empty-clause-feeds
returns-then-is_empty-clause-feeds g c options text at =
    let at' = subst (λ (s : FilterState). IsAfter options s text) (sym c.self.view_is) at in
    let none : take line_limit (open_line text) ≡ [] =
    sym (ap (λ h. h.bytes) at'.line) ∙ c.if-is_empty.ensures.0 refl in (
      text,
      script-ended options text (no_byte (open_line text) none),
      record {
        sends = Sends-none options.run tt refl (g.met.O.Sink.took_none _) (g.met.E.Sink.took_none _);
        is_after = at;
      },
    )

pub returns-clause-feeds : goal.returns-clause-feeds
returns-clause-feeds g c options text at =
    let at' = subst (λ (s : FilterState). IsAfter options s text) (sym c.self.view_is) at in
    let some : open_line text ≢ [] = λ none. false≢true (c.if-is_empty.ensures.1
    (ap (λ h. h.bytes) at'.line ∙ ap (take line_limit) none ∙ take-nil line_limit)) in
    (text ++ LF ∷ [], script-open options text some, c.end_line.ensures.feeds options text at)
