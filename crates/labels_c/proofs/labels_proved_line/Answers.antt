use Rattle.labels_c.proofs.labels_proved_line.Goals as goal

pub returns-clause-answers : goal.returns-clause-answers
returns-clause-answers c = c.line_into-told.ensures.answers

pub returns-clause-read : goal.returns-clause-read
returns-clause-read c = c.line_into-told.ensures.read

pub returns-clause-numbers : goal.returns-clause-numbers
returns-clause-numbers c = c.line_into-told.ensures.numbers

pub returns-clause-full : goal.returns-clause-full
returns-clause-full c = c.line_into-told.ensures.full
