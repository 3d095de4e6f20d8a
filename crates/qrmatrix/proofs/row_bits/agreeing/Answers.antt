use Rattle.std.proofs.Common.{ap, ◌∙◌, not}
use Rattle.qrmatrix.proofs.WordLaws.{same_where_not_different}
use Rattle.qrmatrix.proofs.row_bits.agreeing.Goals as goal

pub returns : goal.returns
returns g c = λ i l.
    let bits = g.W.Word.bits in
    c.inverse.ensures i l ∙ ap not (c.xor.ensures i) ∙ same_where_not_different (bits c.args.a i) (bits c.args.b i)
