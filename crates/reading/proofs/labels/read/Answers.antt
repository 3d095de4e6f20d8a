use Rattle.std.proofs.Common.{◌≡◌, Some, true, sym, ap, ◌∙◌, option_map, arith}
use Rattle.std.proofs.lemmas.Grind.{common_steps}
use Rattle.filter.specs.Symbol.{quiet_zone}
use Rattle.picture.specs.Picture.{Picture}
use Rattle.picture.specs.Reading.{raster}
use Rattle.reading.specs.Labels.{read_label}
use Rattle.reading.specs.Private.{are_whole_cells, modules_in}
use Rattle.reading.proofs.LabelLaws.{whole_read, part_unread}
use Rattle.reading.proofs.WidthLaws.{told_if}
use Rattle.reading.proofs.labels.read.Goals as goal

pub returns-in_err-modules : goal.returns-in_err-modules
returns-in_err-modules g c = grind (arith, part_unread, whole_read)

pub returns-in_err-data : goal.returns-in_err-data
returns-in_err-data g c = grind (arith, part_unread, whole_read)

pub are_cells-requires-clause-whole : goal.are_cells-requires-clause-whole
are_cells-requires-clause-whole g c = grind (arith, common_steps)

pub returns : goal.returns
returns g c =
    let p = g.G.Grid.picture c.args.dots.now in
    let zone = c.zone_of-zone.ensures.zone in
    let rule = λ (q : Picture). read_label c.args.symbology (raster q).rows in
    let whole : are_whole_cells p c.args.scale (quiet_zone c.args.symbology) ≡ true =
    ap (are_whole_cells p c.args.scale) (sym zone) ∙ c.in_ok-modules.ensures.0 in
    let read : rule (modules_in p c.args.scale (quiet_zone c.args.symbology)) ≡ Some c.in_ok-data.data.items =
    ap (λ z. rule (modules_in p c.args.scale z)) (sym zone) ∙ ap rule (sym c.in_ok-modules.ensures.1)
    ∙ sym c.read_modules.ensures ∙ ap (option_map (λ bytes. bytes.items)) c.in_ok-data.was in
    rw (c.then_some.ensures, c.are_cells.ensures, zone, whole_read c.args.symbology p c.args.scale c.requires whole, read)
    (told_if (λ bytes. bytes.items) c.in_ok-data.data _)
