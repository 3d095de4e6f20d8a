use Rattle.std.proofs.Common.{◌∙◌, arith}
use Rattle.std.proofs.lemmas.List.{length-set}
use Rattle.qr_reading.proofs.Laws.WalkedBitLaws.{fours_more}
use Rattle.qr_reading.proofs.walk.write_fours.Goals as goal

pub loop-y-preserved : goal.loop-y-preserved
loop-y-preserved c =
    let was = c.loop-y.invariant in
    record {
      count = length-set c.loop-y.fours c.loop-y.y _ ∙ was.count;
      written = fours_more c.args.free.now c.loop-y.fours c.loop-y.y c.row.result c.row-in-loop-y.result
          c.row-in-loop-y-2.result c.row-in-loop-y-3.result
          (omega (arith, was.count, c.loop-y-test.true, c.requires.0, c.requires.1)) c.row.ensures.bits
          c.row-in-loop-y.ensures.bits c.row-in-loop-y-2.ensures.bits c.row-in-loop-y-3.ensures.bits was.written;
    }
