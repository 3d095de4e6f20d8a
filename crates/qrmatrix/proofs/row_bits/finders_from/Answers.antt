use Rattle.std.proofs.Common.{◌∙◌, ap, ◌&&◌, not}
use Rattle.qrmatrix.proofs.WordLaws.{finders_are}
use Rattle.qrmatrix.proofs.row_bits.finders_from.Goals as goal

pub returns : goal.returns
returns g c = λ i l.
    let bits = g.W.Word.bits in
    let moved_two = bits c.down-2.result in
    let both = bits c.and.result in
    c.and-3.ensures i
    ∙ ap (λ b. b && moved_two i) (c.and-2.ensures i ∙ ap (λ b. both i && b) (c.inverse.ensures i l)
    ∙ ap (λ b. b && not (bits c.down.result i)) (c.and.ensures i))
    ∙ finders_are (bits c.args.row) (bits c.changes_in-changes.result) (bits c.down-moved.result)
    (bits c.and-two_changes.result) (bits c.or-one_change.result) (bits c.down.result) moved_two
    c.changes_in-changes.ensures c.down-moved.ensures c.and-two_changes.ensures c.or-one_change.ensures c.down.ensures
    c.down-2.ensures i
