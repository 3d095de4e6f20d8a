use Rattle.std.proofs.Common.{arith}
use Rattle.std.proofs.Math.Nat.{div-le_self}
use Rattle.qrdata.proofs.Laws.VersionLaws.{IsSound-of, data_codewords-few}
use Rattle.qrdata.proofs.version.Version.lengths.Goals as goal

pub overflow_add-size : goal.overflow_add-size
overflow_add-size c = omega (
  arith,
  div-le_self c.data_words-codewords.result c.block_count-blocks.result,
  data_codewords-few c.args.self c.args.level c.data_words-codewords.ensures c.prove_range.ensures,
)

pub returns : goal.returns
returns c =
    rw (
      c.push_lengths-2.ensures,
      c.push_lengths.ensures,
      c.new-lengths.ensures,
      c.block_count-blocks.ensures.value,
      c.data_words-codewords.ensures,
    ) (IsSound-of c.args.self c.args.level c.prove_range.ensures).even
