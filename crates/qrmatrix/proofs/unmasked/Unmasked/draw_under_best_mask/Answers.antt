use Rattle.std.proofs.Common.{◌∙◌, List, ℕ, ap, arith, sym}
use Rattle.qrdata.specs.Versions.{side_of}
use Rattle.qrmatrix.specs.MaskChoice.{chosen_mask}
use Rattle.qrmatrix.specs.Modules.{module_at}
use Rattle.qrmatrix.specs.Penalty.{penalty}
use Rattle.qrmatrix.proofs.Laws.MaskChoiceLaws.{Found-kept, Found-lower, lowest_of_eight, next_turn}
use Rattle.qrmatrix.proofs.unmasked.Unmasked.draw_under_best_mask.Goals as goal
use Rattle.qrmatrix.proofs.unmasked.Unmasked.draw_under_best_mask.Goals.{in-Some, in_default}
use Rattle.qrmatrix.specs.Private.Drawing.{Places, ShowsSymbol}

pub loop-turn-preserved : goal.loop-turn-preserved
loop-turn-preserved c =
    let self = c.args.self.now in
    let before = c.loop-turn.invariant in
    let is_mask = c.draw_under-in-loop-turn.ensures.mask in
    let f : List ℕ → ℕ → ℕ =
    λ codewords k. penalty (side_of self.version) (module_at self.version self.level k codewords) in
    let one = next_turn c.loop-turn.turn c.mask_in_turn-mask.result c.mask_in_turn-mask.ensures.turn in
    let shown : (codewords : List ℕ) → Places self codewords → ShowsSymbol self codewords c.draw_under-in-loop-turn.new.masked =
    λ codewords u. c.draw_under-in-loop-turn.ensures.modules codewords u (before.drawn codewords u) in
    record {
      found = λ codewords u.
          elim c.match-penalty_below.branch [
            | in-Some w ↦
                let value = rw w.in-Some.is at c.penalty_below.ensures.value codewords (shown codewords u) in
                let below = rw w.in-Some.is at c.penalty_below.ensures.below in
                Found-lower (before.found codewords u) one
                (ap (λ z. z.mask) (w.best-is ∙ w.copy_from.ensures) ∙ is_mask)
                (w.lowest-is ∙ value ∙ ap (f codewords) is_mask) (rw (w.lowest-is, ← c.limit_for-limit.ensures.value) below)
            | in_default w ↦
                let reached = rw w.in_default.is at c.penalty_below.ensures.reached codewords (shown codewords u) in
                rw (w.best-is, w.lowest-is) (Found-kept (before.found codewords u) one
                (rw (← c.limit_for-limit.ensures.value, ← is_mask) reached))
          ];
      shown = λ codewords u.
          elim c.match-penalty_below.branch [
            | in-Some w ↦ rw (w.best-is, w.copy_from.ensures) (shown codewords u)
            | in_default w ↦ rw w.best-is (before.shown codewords u)
          ];
      drawn = λ codewords u. c.draw_under-in-loop-turn.ensures.within codewords u (before.drawn codewords u);
      bound = elim c.match-penalty_below.branch [
        | in-Some w ↦ let below = rw w.in-Some.is at c.penalty_below.ensures.below in rw w.lowest-is (omega arith)
        | in_default w ↦ rw w.lowest-is before.bound
      ];
    }

pub returns-clause-mask : goal.returns-clause-mask
unfolding chosen_mask
returns-clause-mask c = λ codewords u.
    let v = c.args.self.now.version in
    let f : ℕ → ℕ = λ k. penalty (side_of v) (module_at v c.args.self.now.level k codewords) in
    let found = c.loop-turn.invariant.found codewords u in
    sym (lowest_of_eight f c.loop-turn.best.mask found.lowest (grind (arith, found.lowest.among))
    (λ j h. grind arith))
