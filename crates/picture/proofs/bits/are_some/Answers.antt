use Rattle.std.proofs.Common.{◌==◌, ◌∙◌, ℕ, arith, false, map, not, sym}
use Rattle.std.proofs.lemmas.List.{get_or-map, get_or_default, length-map, same_lists}
use Rattle.picture.proofs.bits.are_some.Goals as goal

pub returns : goal.returns
returns c =
    let values = c.args.values in
    let is_some = λ (value : ℕ). not (value == 0) in
    let whole = c.loop-j.invariant.whole in
    same_lists c.loop-j.some (map is_some values) (omega (arith, whole, length-map values is_some)) (λ k d h.
    get_or_default c.loop-j.some k d false h ∙ c.loop-j.invariant.so_far k (omega (arith, h, whole))
    ∙ sym (get_or-map is_some values k 0 d (omega (arith, h, whole))))
