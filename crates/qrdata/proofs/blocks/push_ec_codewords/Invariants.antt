use Rattle.std.proofs.Common.{◌≡◌, ◌+◌, ◌-◌, ◌*◌, ◌≤◌, ◌++◌, drop, length, sum}
use Rattle.std.specs.List.{flat_map}
use Rattle.gf256.specs.ErrorCorrection.{ec_codewords_of}
use Rattle.qrdata.specs.Codewords.{split_by}
use Rattle.qrdata.proofs.blocks.push_ec_codewords.Given as goal

-- what is written and what is to come is the error correction codewords of all blocks
abbrev pub invariant-loop-size : goal.invariant-loop-size
invariant-loop-size l = (l.out.items ++ flat_map (ec_codewords_of l.count)
    (split_by (drop l.size-index l.lengths) (drop l.start l.codewords)) ≡ l.fn.out.items
    ++ flat_map (ec_codewords_of l.count) (split_by l.lengths l.codewords))
    × (l.start + sum (drop l.size-index l.lengths) ≡ length l.codewords)
    × (length l.out.items + 30 * (length l.lengths - l.size-index) ≤ 346)
