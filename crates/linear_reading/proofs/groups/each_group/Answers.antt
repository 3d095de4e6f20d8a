use Rattle.std.proofs.Common.{ap, sym, refl, ◌∙◌, ◌≡◌, ◌<◌, ℕ, arith, ◌+◌, ◌-◌, suc}
use Rattle.std.specs.Prelude.{option_map}
use Rattle.std.proofs.lemmas.Fn.{says_at}
use Rattle.std.proofs.lemmas.Grind.{common_steps}
use Rattle.linear_reading.proofs.GroupReadingLaws.{no_group, one_group}
use Rattle.linear_reading.proofs.groups.each_group.Goals as goal

one_more : (count i : ℕ) → i < count → count - i ≡ suc (count - (i + 1))
one_more count i inside = omega arith

pub split_at-requires : goal.split_at-requires
split_at-requires g c = grind (arith, common_steps)

pub loop-group-preserved : goal.loop-group-preserved
loop-group-preserved g c =
    let more = one_more c.args.count c.loop-group._group c.loop-group-test.true in
    record {
      count = omega arith;
      groups = omega (arith, rw more at c.loop-group.invariant.groups, c.split_at.ensures.back_len);
      all = λ rule finds. rw (c.push.ensures.items, c.split_at.ensures.back) (sym (one_group rule c.args.width _ _ _ _ _
          more (finds _ _ c.split_at.ensures.front_len (says_at g.F.Fn c.in_ok-found.ensures refl)
          ∙ ap rule c.split_at.ensures.front)) ∙ c.loop-group.invariant.all rule finds);
    }

pub returns-in_err-found : goal.returns-in_err-found
returns-in_err-found g c = λ rule finds.
    ap (option_map (λ ys. ys.items)) c.from_residual.ensures
    ∙ sym (no_group rule c.args.width _ _ _ _ (one_more c.args.count c.loop-group._group c.loop-group-test.true)
    (finds _ _ c.split_at.ensures.front_len (says_at g.F.Fn c.in_err-found.ensures refl)
    ∙ ap rule c.split_at.ensures.front))
    ∙ c.loop-group.invariant.all rule finds

pub returns : goal.returns
returns g c = grind (arith, common_steps)
