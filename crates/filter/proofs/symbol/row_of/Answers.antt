use Rattle.filter.proofs.Laws.Words.{Ean13, Ean8, UpcA, Code128, symbol_of}
use Rattle.filter.proofs.symbol.row_of.Goals as goal

pub returns-in-Ean13-clause-drawn : goal.returns-in-Ean13-clause-drawn
unfolding symbol_of
returns-in-Ean13-clause-drawn c = rw c.in-Ean13.is (c.linear_row.ensures.drawn Ean13)

pub returns-in-Ean13-clause-refused : goal.returns-in-Ean13-clause-refused
unfolding symbol_of
returns-in-Ean13-clause-refused c = rw c.in-Ean13.is (c.linear_row.ensures.refused Ean13)

pub returns-in-Ean8-clause-drawn : goal.returns-in-Ean8-clause-drawn
unfolding symbol_of
returns-in-Ean8-clause-drawn c = rw c.in-Ean8.is (c.linear_row-in-Ean8.ensures.drawn Ean8)

pub returns-in-Ean8-clause-refused : goal.returns-in-Ean8-clause-refused
unfolding symbol_of
returns-in-Ean8-clause-refused c = rw c.in-Ean8.is (c.linear_row-in-Ean8.ensures.refused Ean8)

pub returns-in-UpcA-clause-drawn : goal.returns-in-UpcA-clause-drawn
unfolding symbol_of
returns-in-UpcA-clause-drawn c = rw c.in-UpcA.is (c.linear_row-in-UpcA.ensures.drawn UpcA)

pub returns-in-UpcA-clause-refused : goal.returns-in-UpcA-clause-refused
unfolding symbol_of
returns-in-UpcA-clause-refused c = rw c.in-UpcA.is (c.linear_row-in-UpcA.ensures.refused UpcA)

pub returns-in-Code128-clause-drawn : goal.returns-in-Code128-clause-drawn
unfolding symbol_of
returns-in-Code128-clause-drawn c = rw c.in-Code128.is (c.linear_row-in-Code128.ensures.drawn Code128)

pub returns-in-Code128-clause-refused : goal.returns-in-Code128-clause-refused
unfolding symbol_of
returns-in-Code128-clause-refused c = rw c.in-Code128.is (c.linear_row-in-Code128.ensures.refused Code128)
