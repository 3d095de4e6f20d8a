use Rattle.std.proofs.Common.{◌∙◌}
use Rattle.qrmatrix.proofs.WordLaws.{uniform_is}
use Rattle.qrmatrix.proofs.row_bits.uniform_five.Goals as goal

pub returns : goal.returns
returns g c = λ i l.
    let bits = g.W.Word.bits in
    c.inverse.ensures i l
    ∙ uniform_is (bits c.args.row) (bits c.changes_in-changes.result) (bits c.down.result)
    (bits c.or-changes_of_two.result) (bits c.down-2.result) (bits c.or.result) c.changes_in-changes.ensures c.down.ensures
    c.or-changes_of_two.ensures c.down-2.ensures c.or.ensures i
