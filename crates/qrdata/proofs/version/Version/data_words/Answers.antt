use Rattle.std.proofs.Common.{arith}
use Rattle.qrdata.proofs.Laws.VersionLaws.{IsSound-of}
use Rattle.qrdata.proofs.version.Version.data_words.Goals as goal

pub overflow_sub-result : goal.overflow_sub-result
overflow_sub-result c =
    rw (c.total_words.ensures, c.block_count.ensures.value, c.ec_codewords_per_block.ensures.value)
    (omega (arith, (IsSound-of c.args.self c.args.level c.prove_range.ensures).all))

pub returns : goal.returns
returns c = rw (c.total_words.ensures, c.block_count.ensures.value, c.ec_codewords_per_block.ensures.value)
    (omega (arith, (IsSound-of c.args.self c.args.level c.prove_range.ensures).all))
