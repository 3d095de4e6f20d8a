use Rattle.std.proofs.Common.{arith, refl, ◌≡◌, Some, None, sym, ap, ◌∙◌, option_map}
use Rattle.filter.specs.Symbol.{quiet_zone}
use Rattle.labelcore.specs.declared.symbology.Symbology.TheVariants.{Qr}
use Rattle.picture.specs.Picture.{Picture}
use Rattle.picture.specs.Reading.{raster}
use Rattle.reading.specs.Labels.{read_label}
use Rattle.reading.specs.Private.{modules_in}
use Rattle.reading.proofs.LabelLaws.{whole_read}
use Rattle.reading.proofs.WidthLaws.{told_if}
use Rattle.reading.proofs.labels.read_singles.Goals as goal

pub returns-in_default : goal.returns-in_default
returns-in_default g c =
    let p = g.G.Grid.picture c.args.dots.now in
    let rule = λ (q : Picture). read_label Qr (raster q).rows in
    let none : rule (modules_in p 1 (quiet_zone Qr)) ≡ None =
    sym (c.read.ensures (modules_in p 1 (quiet_zone Qr)) c.requires.1) ∙ ap (option_map (λ bytes. bytes.items)) c.in_default.is in
    rw (whole_read Qr p 1 (omega arith) c.requires.0, none) refl

pub returns : goal.returns
returns g c =
    let p = g.G.Grid.picture c.args.dots.now in
    let zone = c.zone_of.ensures.zone in
    let rule = λ (q : Picture). read_label Qr (raster q).rows in
    let read : rule (modules_in p 1 (quiet_zone Qr)) ≡ Some c.in-Some.data.items =
    sym (c.read.ensures (modules_in p 1 (quiet_zone Qr)) c.requires.1) ∙ ap (option_map (λ bytes. bytes.items)) c.in-Some.is in
    rw (c.then_some.ensures, c.are_cells.ensures, zone, whole_read Qr p 1 (omega arith) c.requires.0, read)
    (told_if (λ bytes. bytes.items) c.in-Some.data _)
