use Rattle.std.proofs.Common.{◌≡◌, ◌+◌, ◌-◌, get_or, append_assoc, append-nil, arith}
use Rattle.std.proofs.lemmas.List.{drop-drop, drop_all, drop_more}
use Rattle.std.proofs.lemmas.List.Sums.{sum_by-drop_more}
use Rattle.qrdata.specs.Codewords.{split_by}
use Rattle.qrdata.proofs.blocks.push_ec_codewords.Goals as goal

pub loop-size-preserved : goal.loop-size-preserved
unfolding split_by
loop-size-preserved c =
    let lengths = c.args.lengths.now in
    let i = c.loop-size.size-index in
    let start = c.loop-size.start in
    let size = get_or lengths i 0 in
    let next = drop_more lengths i 0 c.loop-size-test.true in
    let piece : start + size - start ≡ size = omega arith in (
      rw (
        c.push_block_ec_codewords.ensures.codewords,
        piece,
        append_assoc,
        ← drop-drop size start c.args.codewords.now,
      ) (rw next at c.loop-size.invariant.0),
      omega (arith, sum_by-drop_more (λ x. x) lengths i 0 c.loop-size-test.true, c.loop-size.invariant.1),
      omega (arith, c.push_block_ec_codewords.ensures.len, c.requires.count.1),
    )

pub returns : goal.returns
unfolding split_by
returns c = rw (drop_all c.loop-size.size-index c.args.lengths.now c.loop-size-test.false, append-nil)
    at c.loop-size.invariant.0
