use Rattle.std.proofs.Common.{◌≡◌, ◌+◌, ◌-◌, ◌/◌, ◌∙◌, ◌*◌, ℕ, false, length, zero-mul, ap, arith, inl, inr, ◌≤◌}
use Rattle.std.proofs.Math.ListN.{get_or}
use Rattle.std.proofs.lemmas.List.FromFn.{fill_by_all}
use Rattle.std.proofs.lemmas.Bool.{cases_lt}
use Rattle.std.proofs.lemmas.Nat.{mul-le}
use Rattle.std.proofs.Math.Nat.{div-eq_of_lt-le}
use Rattle.picture.proofs.scaled.widen_each.Goals as goal

pub loop-x-preserved : goal.loop-x-preserved
loop-x-preserved c =
    let h = c.loop-x.invariant in
    let s = c.args.scale in
    let x = c.loop-x.x - 1 in
    let next : c.loop-x.x ≡ x + 1 = omega arith in
    let place : c.loop-x.x * s ≡ (x + 1) * s = ap (λ (n : ℕ). n * s) next in
    let e = c.widen.ensures in
    record {
      size = e.size ∙ h.size;
      done = λ k low inside. elim (cases_lt k ((x + 1) * s)) [
        | inl square ↦
            let least : (x + 1) * 1 ≤ (x + 1) * s = mul-le (x + 1) 1 (x + 1) s (omega arith) (omega arith) in
            let column : k / s ≡ x = div-eq_of_lt-le s (omega arith) square in
            rw column (e.square k (omega arith) square ∙ h.rest x (omega arith))
        | inr past ↦ e.after k past ∙ h.done k (omega arith) (omega arith)
      ];
      rest = λ k low. e.before k low ∙ h.rest k (omega arith);
    }

pub returns : goal.returns
returns c =
    let first : c.loop-x.x ≡ 0 = omega arith in
    let none : c.loop-x.x * c.args.scale ≡ 0 = ap (λ (n : ℕ). n * c.args.scale) first ∙ zero-mul c.args.scale in
    fill_by_all (λ x. get_or c.args.pixels.now (x / c.args.scale) false) c.loop-x.pixels (length c.args.pixels.now)
    false (omega arith)
    (λ k h. c.loop-x.invariant.done k (omega arith) (omega arith))
