use Rattle.labels_c.proofs.labels_proved_draw_line.Goals as goal

pub returns-clause-answers : goal.returns-clause-answers
returns-clause-answers c = c.draw_line_into.ensures.answers

pub returns-clause-read : goal.returns-clause-read
returns-clause-read c = c.draw_line_into.ensures.read
