use Rattle.labels_c.proofs.labels_proved_symbol.Goals as goal

pub returns-clause-answers : goal.returns-clause-answers
returns-clause-answers c = c.symbol_into-told.ensures.answers

pub returns-clause-read : goal.returns-clause-read
returns-clause-read c = c.symbol_into-told.ensures.read

pub returns-clause-numbers : goal.returns-clause-numbers
returns-clause-numbers c = c.symbol_into-told.ensures.numbers

pub returns-clause-full : goal.returns-clause-full
returns-clause-full c = c.symbol_into-told.ensures.full
