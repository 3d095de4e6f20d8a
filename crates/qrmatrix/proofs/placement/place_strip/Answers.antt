use Rattle.std.proofs.Common.{◌+◌, refl, arith}
use Rattle.std.proofs.lemmas.Bool.Decides.{nat_tests}
use Rattle.qrmatrix.proofs.CursorLaws.{both_free, none_free, renumbered, rows_passed}
use Rattle.qrmatrix.proofs.placement.place_strip.Goals as goal

pub loop-t-init : goal.loop-t-init
loop-t-init c = record {
  placed = λ v start is marks p. p;
  bound = omega arith;
  inside = omega arith;
}

pub bits_from-requires : goal.bits_from-requires
bits_from-requires c =
    let bound = c.loop-t.invariant.bound in
    omega arith

pub overflow_add-i : goal.overflow_add-i
overflow_add-i c =
    let bound = c.loop-t.invariant.bound in
    let inside = c.ones_from-both.ensures.inside in
    record { fits = omega arith }

pub loop-t-preserved-then-both-gt0 : goal.loop-t-preserved-then-both-gt0
loop-t-preserved-then-both-gt0 c =
    let t = c.loop-t.t in
    let rows = c.ones_from-both.ensures in
    let inside = rows.inside in
    let bound = c.loop-t.invariant.bound in
    record {
      placed = λ v start is marks p.
          c.place_free.ensures c.args.free.now
          (λ j l. both_free v c.args.strip c.args.free.now c.row-left.result c.row-right.result (t + j) is marks
          c.row-left.ensures.bits c.row-right.ensures.bits (omega arith) (rows.ones j l))
          c.args.bytes.now c.loop-t.i c.bits_from.ensures v start is marks
          (c.loop-t.invariant.placed v start is marks p);
      bound = omega arith;
      inside = omega arith;
    }

pub loop-t-preserved-then-neither-gt0 : goal.loop-t-preserved-then-neither-gt0
loop-t-preserved-then-neither-gt0 c =
    let t = c.loop-t.t in
    let rows = c.ones_from-neither.ensures in
    let inside = rows.inside in
    let bound = c.loop-t.invariant.bound in
    record {
      placed = λ v start is marks p.
          rows_passed c.args.strip c.args.free.now c.loop-t.modules c.args.bytes.now c.loop-t.i t
          c.ones_from-neither.result inside
          (λ j l. none_free v c.args.strip c.args.free.now c.row-left.result c.row-right.result (t + j) is marks
          c.row-left.ensures.bits c.row-right.ensures.bits (omega arith) c.row-left.type_inv c.row-right.type_inv
          (grind (arith, nat_tests)) (rows.ones j l)) v start is marks
          (c.loop-t.invariant.placed v start is marks p);
      bound = omega arith;
      inside = omega arith;
    }

pub bits_from-requires-else-neither-gt0 : goal.bits_from-requires-else-neither-gt0
bits_from-requires-else-neither-gt0 c =
    let bound = c.loop-t.invariant.bound in
    omega arith

pub overflow_add-i-else-neither-gt0 : goal.overflow_add-i-else-neither-gt0
overflow_add-i-else-neither-gt0 c =
    let bound = c.loop-t.invariant.bound in
    let few = c.place_row-i.ensures.bound in
    record { fits = omega arith }

pub loop-t-preserved : goal.loop-t-preserved
loop-t-preserved c =
    let t = c.loop-t.t in
    let row = c.place_row-i in
    let few = row.ensures.bound in
    let bound = c.loop-t.invariant.bound in
    record {
      placed = λ v start is marks p.
          row.ensures.placed c.args.strip t c.args.bytes.now c.loop-t.i refl c.row.ensures.value (omega arith)
          (λ j l. c.bits_from-else-neither-gt0.ensures j (omega arith)) v start is marks
          (c.loop-t.invariant.placed v start is marks p);
      bound = omega arith;
      inside = omega arith;
    }

pub returns-clause-placed : goal.returns-clause-placed
returns-clause-placed c =
    λ v start is marks p.
    let inside = c.loop-t.invariant.inside in
    renumbered c.args.strip.number c.loop-t.i c.loop-t.i c.loop-t.t c.args.strip.side refl (omega arith)
    (c.loop-t.invariant.placed v start is marks p)

pub returns-clause-bound : goal.returns-clause-bound
returns-clause-bound c =
    let inside = c.loop-t.invariant.inside in
    let bound = c.loop-t.invariant.bound in
    omega arith
