use Rattle.std.proofs.Common.{ap, arith, length, sym, ◌-◌, ◌∙◌}
use Rattle.qr_reading.proofs.SegmentStepLaws.{nothing_read, one_segment}
use Rattle.qr_reading.proofs.segment_reading.read_segments.Goals as goal

pub loop-rest-init : goal.loop-rest-init
loop-rest-init c = record {
  most = length c.args.bits.now;
  enough = omega arith;
  all = nothing_read c.new-out.result.items _ c.new-out.ensures;
  room = omega (arith, c.requires, ap length c.new-out.ensures);
}

pub loop-rest-preserved : goal.loop-rest-preserved
loop-rest-preserved c = record {
  most = c.loop-rest.invariant.most - 1;
  enough = omega (arith, c.in_ok-rest.ensures.less, c.loop-rest.invariant.enough);
  all = one_segment c.args.version c.loop-rest.out.items _ c.loop-rest.invariant.most _ _
      (omega (arith, c.in_ok-rest.ensures.less, c.loop-rest.invariant.enough))
      (sym c.loop-rest-test.ensures) c.in_ok-rest.ensures.read
      ∙ c.loop-rest.invariant.all;
  room = c.in_ok-rest.ensures.room;
}
