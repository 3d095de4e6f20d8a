use Rattle.std.proofs.Common.{refl}
use Rattle.linear.specs.Ean.{ean8_row}
use Rattle.linear.specs.EanReading.{read_ean8}
use Rattle.linear.proofs.Laws.DamageLaws.{ean8_rows_far_apart}
use Rattle.linear.proofs.EncodingLaws.{IsDrawn-from_Ok}
use Rattle.linear.proofs.Laws.GapLaws.{ean8_gap}
use Rattle.linear.proofs.Laws.EanLaws.{ean8_reads}
use Rattle.linear.proofs.ean.Ean8Linear.encode.Goals as goal

pub returns-clause-drawn : goal.returns-clause-drawn
returns-clause-drawn c =
    let full = c.in_ok-full.full.items in
    IsDrawn-from_Ok _ ean8_row read_ean8 3 ean8_rows_far_apart ean8_gap full c.in_ok-full.ensures.answer c.clear.ensures
    (rw c.deref.ensures.0 at c.push_ean8.ensures) (ean8_reads full c.in_ok-full.ensures.full) refl
