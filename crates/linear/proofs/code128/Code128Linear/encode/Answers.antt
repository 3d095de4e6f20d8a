use Rattle.std.proofs.Common.{refl}
use Rattle.linear.specs.Code128.{code128_row}
use Rattle.linear.specs.Code128Reading.{read_code128}
use Rattle.linear.proofs.Laws.DamageLaws.{code128_rows_far_apart}
use Rattle.linear.proofs.EncodingLaws.{IsDrawn-from_Ok}
use Rattle.linear.proofs.Laws.GapLaws.{code128_gap}
use Rattle.linear.proofs.Laws.Code128Laws.{code128_reads}
use Rattle.linear.proofs.code128.Code128Linear.encode.Goals as goal

pub returns-clause-drawn : goal.returns-clause-drawn
returns-clause-drawn c =
    IsDrawn-from_Ok _ code128_row read_code128 1 code128_rows_far_apart code128_gap c.args.data.now
    c.in_ok-check_data.ensures.answer c.clear.ensures c.push_code128.ensures
    (code128_reads c.args.data.now c.in_ok-check_data.ensures.valid) refl
