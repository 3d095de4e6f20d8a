use Rattle.std.proofs.Common.{◌≡◌, ◌+◌, ◌-◌, ◌*◌, ◌/◌, ◌≤◌, ◌&&◌, ◌∙◌, arith, refl, sym}
use Rattle.std.proofs.lemmas.Bool.{and_parts, leb-true}
use Rattle.std.proofs.lemmas.Grind.{common_steps}
use Rattle.reading.proofs.Laws.CellLaws.{cell_decides, colour, rest_is, singles_row}
use Rattle.reading.proofs.sampled.is_row_of_cells.Goals as goal

pub overflow_mul-from : goal.overflow_mul-from
overflow_mul-from g c = grind (arith, common_steps)

pub overflow_add-from : goal.overflow_add-from
overflow_add-from g c = grind (arith, common_steps)

pub is_row_of_cell-requires-clause-wide : goal.is_row_of_cell-requires-clause-wide
is_row_of_cell-requires-clause-wide g c = grind (arith, common_steps)

pub returns-then-not-is_row_of_cell : goal.returns-then-not-is_row_of_cell
returns-then-not-is_row_of_cell g c =
    let p = g.G.Grid.picture c.args.dots.now in
    let scale = c.args.scale in
    let column = c.loop-column.column in
    let is : (c.is_between-is_inner.result && c.is_between.result && p.dark (column * scale) (c.args.y / scale * scale))
    ≡ colour p scale c.args.zone.now c.requires.some column c.args.y =
    rw (c.is_between-is_inner.ensures, c.is_between.ensures, c.width-width.ensures, c.height.ensures) (grind arith) in
    let decides = cell_decides p scale c.args.zone.now c.requires.some column c.args.y _
    (rw c.width-width.ensures at c.loop-column-test.true) is in
    let size : column * scale + scale - column * scale ≡ scale = omega arith in
    let part = rw size at c.is_row_of_cell.ensures in
    sym (c.loop-column.invariant ∙ decides ∙ rw (sym part ∙ c.if-not-is_row_of_cell.true) refl)

pub loop-column-preserved : goal.loop-column-preserved
loop-column-preserved g c =
    let p = g.G.Grid.picture c.args.dots.now in
    let scale = c.args.scale in
    let column = c.loop-column.column in
    let is : (c.is_between-is_inner.result && c.is_between.result && p.dark (column * scale) (c.args.y / scale * scale))
    ≡ colour p scale c.args.zone.now c.requires.some column c.args.y =
    rw (c.is_between-is_inner.ensures, c.is_between.ensures, c.width-width.ensures, c.height.ensures) (grind arith) in
    let decides = cell_decides p scale c.args.zone.now c.requires.some column c.args.y _
    (rw c.width-width.ensures at c.loop-column-test.true) is in
    let size : column * scale + scale - column * scale ≡ scale = omega arith in
    let part = rw size at c.is_row_of_cell.ensures in
    c.loop-column.invariant ∙ decides ∙ rw (sym part ∙ c.if-not-is_row_of_cell.false) refl

pub returns-then-is_inner-is_as_wide : goal.returns-then-is_inner-is_as_wide
returns-then-is_inner-is_as_wide g c =
    let p = g.G.Grid.picture c.args.dots.now in
    let zone = c.args.zone.now in
    let both = and_parts c.is_between-is_inner.result c.is_as_wide.result c.if-is_inner-is_as_wide.true in
    let inner = rw c.height.ensures at (sym c.is_between-is_inner.ensures ∙ both.0) in
    let fits : zone.left + zone.right ≤ p.width =
    leb-true (zone.left + zone.right) p.width (rw c.width-width.ensures at (sym c.is_as_wide.ensures ∙ both.1)) in
    c.is_light_beside.ensures ∙ singles_row p c.args.scale zone c.requires.some c.args.y c.if-scale-eq1.true inner fits

pub returns : goal.returns
returns g c =
    let p = g.G.Grid.picture c.args.dots.now in
    let scale = c.args.scale in
    let last : c.loop-column.column ≡ p.width / scale =
    rw (← c.width-width.ensures) (omega (arith, c.loop-column-test.false, c.loop-column.auto.column-end)) in
    (rw c.width-width.ensures at c.are_light.ensures)
    ∙ rest_is p scale c.args.zone.now c.requires.some (p.width / scale * scale) c.args.y refl
    ∙ sym (rw last at c.loop-column.invariant)
