use Rattle.labels_c.proofs.labels_proved_bitmap.Goals as goal

pub returns-clause-answers : goal.returns-clause-answers
returns-clause-answers c = c.bitmap_into-told.ensures.answers

pub returns-clause-read : goal.returns-clause-read
returns-clause-read c = c.bitmap_into-told.ensures.read
