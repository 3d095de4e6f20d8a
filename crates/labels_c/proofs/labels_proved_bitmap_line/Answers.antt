use Rattle.labels_c.proofs.labels_proved_bitmap_line.Goals as goal

pub returns-clause-answers : goal.returns-clause-answers
returns-clause-answers c = c.bitmap_line_into-told.ensures.answers

pub returns-clause-read : goal.returns-clause-read
returns-clause-read c = c.bitmap_line_into-told.ensures.read
