use Rattle.std.proofs.Common.{◌≡◌, ◌+◌, ◌-◌, ◌<◌, true, refl, sym, ap, ◌∙◌, arith}
use Rattle.reading.specs.Private.{is_row_of_cells}
use Rattle.labelcore.proofs.Laws.ComputedLaws.{passes_on}
use Rattle.reading.proofs.Laws.CellLaws.{cells_again}
use Rattle.reading.proofs.sampled.are_cells.Goals as goal
use Rattle.reading.proofs.sampled.are_cells.Goals.{then-y-equal, else-y-equal}
use Rattle.reading.proofs.sampled.are_cells.Goals.{else-not-is_again-via-then-not-is_again+else-not-is_row_of_cells}
use Rattle.reading.proofs.sampled.are_cells.Goals.{else-not-is_again-via-else-not-is_again}

pub loop-y-preserved : goal.loop-y-preserved
loop-y-preserved g c =
    let p = g.G.Grid.picture c.args.dots.now in
    let y = c.loop-y.y in
    let was = c.loop-y.invariant in
    let test = is_row_of_cells p c.args.scale c.args.zone.now in
    let high : y < p.height = omega arith in
    let last : y + 1 - 1 ≡ y = omega arith in
    let passed : test y ≡ true = elim c.else-not-is_again.branch [
      | else-not-is_again-via-then-not-is_again+else-not-is_row_of_cells w ↦
          sym w.is_row_of_cells.ensures ∙ w.if-not-is_row_of_cells.false
      | else-not-is_again-via-else-not-is_again w ↦
          let again = c.is_again.ensures w.if-not-is_again.false in
          cells_again p c.args.scale c.args.zone.now c.requires.some y (was.later again.0) high c.requires.whole
          (λ x wide. was.like x y wide (omega arith) again.0) again.1 (was.before (was.later again.0))
    ] in
    record {
      decide = was.decide
          ∙ passes_on test y (y + 1) (p.height - y) (p.height - (y + 1)) (omega (arith, high)) refl (sym passed);
      before = λ _. ap test last ∙ passed;
      later = λ _. omega arith;
      like = λ x k wide after early. (elim c.if-y-equal.branch [
        | then-y-equal w ↦
            let place : y + (k - y) ≡ k = omega (arith, after) in
            ap (p.dark x) (sym place)
            ∙ w.equal_rows.ensures.equal x (k - y) wide (omega (arith, early, after, w.equal-is))
        | else-y-equal w ↦
            was.like x k wide (omega (arith, after)) (omega (arith, early, w.equal-is))
            ∙ sym (was.like x y wide (omega arith) (omega (arith, w.if-y-equal.false)))
      ]) ∙ ap (p.dark x) (sym last);
    }
