use Rattle.std.proofs.Common.{refl}
use Rattle.linear.specs.Ean.{upca_row}
use Rattle.linear.specs.EanReading.{read_upca}
use Rattle.linear.proofs.Laws.DamageLaws.{upca_rows_far_apart}
use Rattle.linear.proofs.EncodingLaws.{IsDrawn-from_Ok}
use Rattle.linear.proofs.Laws.GapLaws.{upca_gap}
use Rattle.linear.proofs.Laws.EanLaws.{upca_reads}
use Rattle.linear.proofs.ean.UpcALinear.encode.Goals as goal

pub returns-clause-drawn : goal.returns-clause-drawn
returns-clause-drawn c =
    let full = c.in_ok-full.full.items in
    IsDrawn-from_Ok _ upca_row read_upca 3 upca_rows_far_apart upca_gap full c.in_ok-full.ensures.answer c.clear.ensures
    (rw c.deref.ensures.0 at c.push_ean13.ensures) (upca_reads full c.in_ok-full.ensures.full) refl
