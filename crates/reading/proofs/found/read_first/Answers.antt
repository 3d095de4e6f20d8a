use Rattle.std.proofs.Common.{◌/◌, ◌∙◌, get_or, refl, sym, arith}
use Rattle.std.proofs.lemmas.Grind.{common_steps}
use Rattle.labelcore.specs.declared.symbology.Symbology.TheVariants.{Ean13}
use Rattle.filter.specs.Symbol.{quiet_zone}
use Rattle.reading.specs.Found.{found_of, reading_as, symbologies}
use Rattle.reading.specs.Private.{can_begin, reading_from}
use Rattle.reading.proofs.FoundLaws.{at_no_scale, at_scale, next_asked, or_absent, or_present}
use Rattle.reading.proofs.found.read_first.Goals as goal
use Rattle.reading.proofs.found.read_first.Goals.{in-Some+else-is_some, in_default}

pub read_as-found-requires-clause-some : goal.read_as-found-requires-clause-some
read_as-found-requires-clause-some g c = grind (arith, common_steps)

pub returns-then-is_some : goal.returns-then-is_some
returns-then-is_some g c =
    let p = g.G.Grid.picture c.args.dots.now in
    let x = c.args.first.x in
    let y = c.args.first.y in
    let turns = c.args.turns in
    let s = get_or symbologies c.loop-place.place Ean13 in
    let asked = at_scale (can_begin p x y s) (x / (quiet_zone s).left) c.in-Some.scale (λ scale. reading_as turns p scale s)
    (sym c.scale_from.ensures ∙ c.in-Some.is) in
    or_present found_of c.read_as-found.result _ _ (c.read_as-found.ensures ∙ sym asked)
    (sym c.is_some.ensures ∙ c.if-is_some.true)
    ∙ sym (next_asked (reading_from turns p x y) symbologies c.loop-place.place Ean13 c.loop-place-test.true)
    ∙ sym c.loop-place.invariant

pub loop-place-preserved : goal.loop-place-preserved
loop-place-preserved g c =
    let p = g.G.Grid.picture c.args.dots.now in
    let x = c.args.first.x in
    let y = c.args.first.y in
    let turns = c.args.turns in
    let s = get_or symbologies c.loop-place.place Ean13 in
    c.loop-place.invariant
    ∙ next_asked (reading_from turns p x y) symbologies c.loop-place.place Ean13 c.loop-place-test.true
    ∙ elim c.match-scale_from.branch [
      | in-Some+else-is_some w ↦
          let asked = at_scale (can_begin p x y s) (x / (quiet_zone s).left) w.in-Some.scale
          (λ scale. reading_as turns p scale s) (sym c.scale_from.ensures ∙ w.in-Some.is) in
          or_absent found_of w.read_as-found.result _ _ (w.read_as-found.ensures ∙ sym asked)
          (sym w.is_some.ensures ∙ w.if-is_some.false)
      | in_default w ↦
          rw (at_no_scale (can_begin p x y s) (x / (quiet_zone s).left) (λ scale. reading_as turns p scale s)
          (sym c.scale_from.ensures ∙ w.in_default.is)) refl
    ]

pub returns : goal.returns
returns g c = grind (arith, common_steps)
