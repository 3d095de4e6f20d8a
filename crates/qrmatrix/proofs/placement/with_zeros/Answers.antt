use Rattle.std.proofs.Common.{length}
use Rattle.qrmatrix.proofs.TwoBitsLaws.{before_zeros}
use Rattle.qrmatrix.proofs.placement.with_zeros.Goals as goal

pub returns : goal.returns
returns c =
    λ j. rw c.copy_from_slice.ensures.after (before_zeros c.args.codewords.now (length c.args.codewords.now) 408 j)
