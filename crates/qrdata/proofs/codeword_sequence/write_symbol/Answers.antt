use Rattle.std.proofs.Common.{◌≡◌, ◌*◌, length, replicate, arith, ap, refl, sym, ◌∙◌}
use Rattle.qrdata.specs.Codewords.{final_message, split_by}
use Rattle.qrdata.specs.Private.Blocks.{HasBlocks}
use Rattle.qrdata.specs.Versions.{block_lengths, ec_codewords_per_block}
use Rattle.std.specs.List.{flat_map}
use Rattle.gf256.specs.ErrorCorrection.{ec_codewords_of}
use Rattle.std.proofs.lemmas.List.Folds.{sum_by-replicate}
use Rattle.qrdata.proofs.Laws.BlockLaws.{length-interleaving-split_by}
use Rattle.qrdata.proofs.Laws.DataReadingLaws.{AreBytes-slice, HasBlocks-of}
use Rattle.qrdata.proofs.codeword_sequence.write_symbol.Goals as goal
use Rattle.qrdata.proofs.codeword_sequence.write_symbol.Goals.{After-as_slice-2, After-prove_range}

-- the message is cut into blocks that fill a symbol
have_blocks : (c : After-prove_range) → HasBlocks c.args.version c.args.level c.args.message.now
have_blocks c = HasBlocks-of c.args.version c.args.level c.args.message.now c.prove_range.ensures
    (AreBytes-slice c.args.message.now (λ i. omega (arith, c.type_inv.message i))) c.requires.whole

pub push_ec_codewords-requires-clause-blocks : goal.push_ec_codewords-requires-clause-blocks
push_ec_codewords-requires-clause-blocks c =
    let blocks = have_blocks (goal.at.push_ec_codewords-requires-clause-blocks c).After-prove_range in (
      rw (c.as_slice-lengths.ensures.value, c.lengths-blocks.ensures) blocks.whole,
      omega arith,
    )

pub interleave-requires-clause-whole : goal.interleave-requires-clause-whole
interleave-requires-clause-whole c =
    let blocks = have_blocks (goal.at.interleave-requires-clause-whole c).After-prove_range in
    rw (c.as_slice-lengths.ensures.value, c.lengths-blocks.ensures) blocks.whole

pub interleave-requires-clause-room : goal.interleave-requires-clause-room
interleave-requires-clause-room c =
    let blocks = have_blocks (goal.at.interleave-requires-clause-room c).After-prove_range in
    omega (arith, ap length c.clear.ensures, blocks.total)

-- each block has the same number of error correction codewords, and those of the blocks are written
written : (c : After-as_slice-2)
    → (c.as_slice.result.now ≡ replicate (length (block_lengths c.args.version c.args.level))
    (ec_codewords_per_block c.args.version c.args.level))
    × (c.as_slice-2.result.now ≡ flat_map (ec_codewords_of (ec_codewords_per_block c.args.version c.args.level))
    (split_by (block_lengths c.args.version c.args.level) c.args.message.now))
written c = rw (
  c.as_slice.ensures.value,
  c.push_lengths.ensures,
  c.new-ec_lengths.ensures,
  c.as_slice-2.ensures.value,
  c.push_ec_codewords.ensures,
  c.new-ec_codewords.ensures,
  c.as_slice-lengths.ensures.value,
  c.lengths-blocks.ensures,
  c.ec_codewords_per_block-count.ensures.value,
) (refl, refl)

pub interleave-requires-2-clause-whole : goal.interleave-requires-2-clause-whole
interleave-requires-2-clause-whole c =
    let blocks = have_blocks (goal.at.interleave-requires-2-clause-whole c).After-prove_range in
    let each = written (goal.at.interleave-requires-2-clause-whole c).After-as_slice-2 in
    let k = ec_codewords_per_block c.args.version c.args.level in
    rw (each.0, each.1) (sum_by-replicate (λ x. x) (length (block_lengths c.args.version c.args.level)) k
    ∙ (ap (λ n. n * k) blocks.count ∙ sym blocks.ec_blocks))

pub interleave-requires-2-clause-room : goal.interleave-requires-2-clause-room
interleave-requires-2-clause-room c =
    let blocks = have_blocks (goal.at.interleave-requires-2-clause-room c).After-prove_range in
    let lengths = block_lengths c.args.version c.args.level in
    let each = written (goal.at.interleave-requires-2-clause-room c).After-as_slice-2 in
    let first : length c.interleave.new.out.items ≡ length c.args.message.now =
    ap length c.interleave.ensures ∙ (rw (c.clear.ensures, c.as_slice-lengths.ensures.value, c.lengths-blocks.ensures)
    (length-interleaving-split_by lengths c.args.message.now blocks.whole)) in
    omega (arith, first, ap length each.1, blocks.ec_blocks, blocks.total)

pub returns : goal.returns
unfolding final_message
returns c =
    let blocks = have_blocks (goal.at.returns c).After-prove_range in
    let each = written (goal.at.returns c).After-as_slice-2 in
    rw (
      c.interleave-2.ensures,
      c.interleave.ensures,
      c.clear.ensures,
      c.as_slice-lengths.ensures.value,
      each.0,
      each.1,
      c.lengths-blocks.ensures,
      blocks.cut,
    ) refl
