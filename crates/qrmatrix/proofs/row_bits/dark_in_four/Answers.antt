use Rattle.std.proofs.Common.{◌∙◌}
use Rattle.qrmatrix.proofs.WordLaws.{dark_is}
use Rattle.qrmatrix.proofs.row_bits.dark_in_four.Goals as goal

pub returns : goal.returns
returns g c = λ i.
    let bits = g.W.Word.bits in
    c.or.ensures i
    ∙ dark_is (bits c.args.row) (bits c.down.result) (bits c.or-dark_in_two.result) (bits c.down-2.result) c.down.ensures
    c.or-dark_in_two.ensures c.down-2.ensures i
