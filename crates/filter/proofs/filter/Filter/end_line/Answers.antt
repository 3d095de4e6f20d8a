use Rattle.filter.proofs.Laws.Words.{◌≡◌, ◌<◌, ◌∙◌, Ok, Err, [], ◌∷◌, ap, arith, length-append, refl, subst, sym, All-push}
use Rattle.filter.proofs.Laws.Words.{LF, ended_lines, open_line, held_line, FilterState, IsAfter, of_line, outcome}
use Rattle.filter.proofs.Laws.Words.{status_of}
use Rattle.labelcore.proofs.Laws.LinesLaws.{ended_lines-push_lf, open_line-push_lf}
use Rattle.filter.proofs.Laws.FilterLaws.{Sends-line, line_number-counts, of_open_line, ended_script-lf, status_of-append}
use Rattle.filter.proofs.filter.Filter.end_line.Goals as goal

pub returns-in-Ok-clause-feeds : goal.returns-in-Ok-clause-feeds
returns-in-Ok-clause-feeds g c options text at =
    let at' = subst (λ (s : FilterState). IsAfter options s text) (sym c.self.view_is) at in
    let counts = c.saturating_add-self-inside.ensures in
    let status = of_open_line options _ text at'
    (λ own line n. c.in-Ok.status ≡ status_of (of_line n (outcome own line) ∷ [])) _ counts c.in-Ok.ensures.status in
    record {
      sends = Sends-line options _ text at' (Ok (tt {0})) _ counts c.in-Ok.ensures.sends;
      is_after = record {
        options_are = at'.options_are;
        range = at'.range;
        bytes = All-push (λ b. b < 256) text LF at'.bytes (omega arith);
        line = c.clear.ensures ∙ ap held_line (sym (open_line-push_lf text));
        line_count = line_number-counts options _ text at' _ counts
            ∙ rw (ended_lines-push_lf text, length-append (ended_lines text) (open_line text ∷ [])) refl;
        status_is = c.worst-self-inside.ensures
            ∙ rw (ended_script-lf options text, status_of-append, at'.status_is, status) refl;
        is_spent = at'.is_spent;
      };
    }

pub returns-in-Err-clause-feeds : goal.returns-in-Err-clause-feeds
returns-in-Err-clause-feeds g c options text at =
    let at' = subst (λ (s : FilterState). IsAfter options s text) (sym c.self.view_is) at in
    record {
      sends = Sends-line options _ text at' (Err c.in-Err.fault) _ c.saturating_add-self-inside.ensures
          c.in-Err.ensures.sends;
      is_after = tt;
    }
