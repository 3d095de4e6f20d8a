use Rattle.std.proofs.Common.{rules, ap, arith, length, length-append, sym, ◌≡◌, ◌-◌, ◌++◌, ◌∙◌}
use Rattle.std.proofs.lemmas.List.{length-replicate}
use Rattle.std.proofs.lemmas.List.Sums.{sum_by-drop_more}
use Rattle.qr_reading.proofs.DeinterleavingLaws.{all_blocks, one_block}
use Rattle.qr_reading.proofs.block_reading.sound_blocks.Goals as goal

pub loop-block-init : goal.loop-block-init
loop-block-init c =
    let lengths = c.args.lengths.now in
    let ec_count : length c.args.ec_lengths.now ≡ length lengths =
    ap length c.requires.equal ∙ length-replicate (length lengths) c.args.count in
    record {
      all = all_blocks c.args.count lengths c.args.ec_lengths.now c.args.codewords.now c.args.ec_codewords.now
          c.new-message.result.items (length lengths - 0) c.new-message.ensures (omega arith) (omega (arith, ec_count));
      room = omega (arith, ap length c.new-message.ensures);
    }

pub loop-block-preserved : goal.loop-block-preserved
loop-block-preserved c =
    let message = c.loop-block.message.items in
    let data_is = c.deref-in-loop-block-2.ensures.0 ∙ sym c.deref.ensures.0 in
    let pushed = c.push_codewords.ensures ∙ ap (λ l. message ++ l) data_is in
    record {
      all = rw pushed (sym (one_block c.args.count c.args.lengths.now c.args.ec_lengths.now c.args.codewords.now
          c.args.ec_codewords.now message _ _ c.loop-block.block _ c.loop-block-test.true
          (c.deref.ensures.0 ∙ c.write_block.ensures.block)
          (c.deref-in-loop-block.ensures.0 ∙ c.write_block-in-loop-block.ensures.block)
          (search rules))) ∙ c.loop-block.invariant.all;
      room = omega (
        arith,
        ap length pushed,
        length-append message c.deref.result.now,
        ap length c.deref.ensures.0,
        c.write_block.ensures.len,
        sum_by-drop_more (λ x. x) c.args.lengths.now c.loop-block.block 0 c.loop-block-test.true,
        c.loop-block.invariant.room,
      );
    }
