use Rattle.std.proofs.Common.{◌∙◌, arith, false, map, sym}
use Rattle.std.proofs.lemmas.Grind.{same_number_lists}
use Rattle.std.proofs.lemmas.List.{get_or-map, length-map}
use Rattle.picture.specs.Text.{pbm_digit}
use Rattle.picture.proofs.pbm.digits.Goals as goal

pub returns : goal.returns
returns c =
    let ps = c.args.pixels.now in
    let whole = c.loop-i.invariant.whole in
    same_number_lists c.loop-i.text (map pbm_digit ps) (omega (arith, whole, length-map ps pbm_digit)) (λ k h.
    c.loop-i.invariant.so_far k (omega (arith, h, whole))
    ∙ sym (get_or-map pbm_digit ps k false 0 (omega (arith, h, whole))))
