use Rattle.std.proofs.Common.{◌≡◌, refl, false, ◌+◌, ◌-◌, ◌*◌, ◌/◌, ◌%◌, ◌∙◌, arith, ap, subst}
use Rattle.std.specs.Prelude.{slice_index}
use Rattle.qrdata.specs.Versions.{side_of}
use Rattle.qrmatrix.specs.Bits.{bit}
use Rattle.qrmatrix.specs.Placement.{rank}
use Rattle.qrmatrix.specs.Square.{value_at}
use Rattle.qrmatrix.specs.Modules.{is_inside}
use Rattle.std.proofs.lemmas.Bool.{and_right}
use Rattle.std.proofs.lemmas.Bool.Decides.{nat_tests}
use Rattle.qrmatrix.specs.Private.Placing.{Placed}
use Rattle.qrmatrix.proofs.CursorLaws.{placed_none, strip_placed}
use Rattle.qrmatrix.proofs.Laws.RankLaws.{keyed_at, outside_at}
use Rattle.qrmatrix.proofs.placement.place.Goals as goal

pub loop-pair-init : goal.loop-pair-init
loop-pair-init c =
    let v = c.args.version in
    record {
      placed = placed_none v c.with_zeros-bytes.result _ (2 * side_of v * 0) (omega arith);
      bound = omega arith;
      width = c.side-side.ensures.value;
    }

pub loop-pair-preserved : goal.loop-pair-preserved
loop-pair-preserved c =
    let v = c.args.version in
    let k = 2 * c.loop-pair.pair in
    let bytes = c.with_zeros-bytes.result in
    let free = c.args.free.now in
    let width = c.loop-pair.invariant.width in
    let bound = c.loop-pair.invariant.bound in
    let up = c.new in
    let down = c.new-in-loop-pair in
    let first = c.place_strip-i in
    let second = c.place_strip-i-in-loop-pair in
    let known = c.side-side.ensures.known in
    let is_up = up.ensures.strip v known.0 known.1 width in
    let is_down = down.ensures.strip v known.0 known.1 width in
    let first_most = first.ensures.bound in
    let second_most = second.ensures.bound in
    let side_up = up.ensures.side in
    let side_down = down.ensures.side in
    let pairs : 2 * side_of v * (k + 1 + 1) ≡ 2 * side_of v * (2 * (c.loop-pair.pair + 1)) = omega arith in
    record {
      placed = subst (Placed v bytes (value_at c.args.modules.now) (value_at second.new.modules) second.result) pairs
          (strip_placed v (k + 1) first.result second.result down.result bytes (value_at c.args.modules.now) free
          first.new.modules second.new.modules is_down c.requires.marked down.ensures.number second.ensures.placed
          (strip_placed v k c.loop-pair.i first.result up.result bytes (value_at c.args.modules.now) free
          c.loop-pair.modules first.new.modules is_up c.requires.marked up.ensures.number first.ensures.placed
          c.loop-pair.invariant.placed));
      bound = omega arith;
      width = width;
    }

pub returns : goal.returns
returns c =
    let v = c.args.version in
    let n = side_of v in
    let known = c.side-side.ensures.known in
    let width = c.side-side.ensures.value in
    let last : 2 * c.loop-pair.pair ≡ (side_of v - 1) / 2 = omega arith in
    let shown = c.loop-pair.invariant.placed.shown in
    record {
      placed = λ x y lx ly free.
          let below = (keyed_at v known.0 known.1 x y lx ly (outside_at v x y free)).below in
          let dark = c.requires.light x y lx ly free in
          shown x y ∙ rw last (grind (arith, nat_tests))
          ∙ ap (λ w. bit w (7 - rank v x y % 8))
          (c.with_zeros-bytes.ensures (rank v x y / 8) ∙ ap (λ ws. slice_index ws (rank v x y / 8)) c.deref.ensures.0);
      others = λ x y lx ly taken. shown x y ∙ rw (taken, and_right (is_inside n x y) false refl) refl;
      outside = record {
        columns = λ x y l. shown x y ∙ grind (arith, nat_tests);
        rows = λ x y l. shown x y ∙ grind (arith, nat_tests);
      };
    }
