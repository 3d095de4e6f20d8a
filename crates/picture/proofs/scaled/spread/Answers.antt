use Rattle.std.proofs.Common.{◌≡◌, ◌/◌, ◌∙◌, ℕ, false, length, ap, sym, arith}
use Rattle.std.proofs.Math.ListN.{get_or}
use Rattle.std.proofs.Math.Nat.{div-one}
use Rattle.std.proofs.lemmas.List.FromFn.{fill_by_all}
use Rattle.picture.proofs.scaled.spread.Goals as goal

pub returns-in-1 : goal.returns-in-1
returns-in-1 c =
    let ps = c.args.pixels.now in
    let one : c.args.scale ≡ 1 = omega arith in
    fill_by_all (λ x. get_or ps (x / c.args.scale) false) ps (length ps) false (omega arith)
    (λ k h. sym (ap (λ (n : ℕ). get_or ps (k / n) false) one ∙ ap (λ (n : ℕ). get_or ps n false) (div-one k)))
