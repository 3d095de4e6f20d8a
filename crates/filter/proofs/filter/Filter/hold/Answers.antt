use Rattle.filter.proofs.Laws.Words.{◌<◌, ◌∙◌, ap, refl, subst, sym, All-append, open_line}
use Rattle.filter.proofs.Laws.Words.{held_line, FilterState, IsAfter}
use Rattle.filter.proofs.Laws.FilterLaws.{are_bytes, ended_lines-more, open_line-more}
use Rattle.filter.proofs.filter.Filter.hold.Goals as goal

pub returns : goal.returns
returns c options text at =
    let at' = subst (λ (s : FilterState). IsAfter options s text) (sym c.self.view_is) at in
    let bytes = c.args.bytes.now in
    record {
      options_are = at'.options_are;
      range = at'.range;
      bytes = All-append (λ b. b < 256) text bytes at'.bytes (are_bytes bytes c.type_inv.bytes);
      line = c.extend.ensures (open_line text) at'.line ∙ ap held_line (sym (open_line-more text bytes c.requires));
      line_count = at'.line_count ∙ rw (ended_lines-more text bytes c.requires) refl;
      status_is = at'.status_is ∙ rw (ended_lines-more text bytes c.requires) refl;
      is_spent = at'.is_spent;
    }
