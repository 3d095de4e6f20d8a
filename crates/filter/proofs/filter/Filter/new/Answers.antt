use Rattle.filter.proofs.Laws.Words.{◌<◌, refl, All-nil, ended_lines, open_line, events_after, status_of}
use Rattle.filter.proofs.filter.Filter.new.Goals as goal

pub returns : goal.returns
unfolding ended_lines open_line events_after status_of
returns c = record {
  options_are = refl;
  range = c.prove_ranges.ensures;
  bytes = All-nil (λ b. b < 256);
  line = c.new.ensures;
  line_count = refl;
  status_is = refl;
  is_spent = refl;
}
