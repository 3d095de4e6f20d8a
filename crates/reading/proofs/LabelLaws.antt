-- What is drawn is read.
use Rattle.std.proofs.Common.{◌≡◌, ℕ, ◌<◌, ap, ◌∙◌, refl, true, false}
use Rattle.std.proofs.Common.{None, Some, Result, Ok, Err}
use Rattle.std.specs.Prelude.{IfOk, option_and_then}
use Rattle.std.specs.Bool.{then_some}
use Rattle.std.specs.List.{list_all}
use Rattle.labelcore.specs.declared.fault.Fault.{Fault}
use Rattle.labelcore.specs.declared.symbology.Symbology.{Symbology as AnySymbology}
use Rattle.picture.specs.Picture.{Picture, enlargement, with_quiet_zone}
use Rattle.picture.specs.Text.{below}
use Rattle.picture.specs.Reading.{raster}
use Rattle.picture.proofs.Laws.SampleLaws.{sample-raster}
use Rattle.filter.specs.Symbol.{Symbol, quiet_zone}
use Rattle.filter.proofs.Laws.ReadLaws.{IsReadable}
use Rattle.reading.specs.Labels.{ModulesAreRead, read_dots, read_label}
use Rattle.reading.specs.Private.{are_whole_cells, is_row_of_cells, modules_in}
use Rattle.reading.proofs.Laws.CellLaws.{sample_is}
use Rattle.reading.proofs.WidthLaws.{read_if_width, test_after}

pub modules_read : ModulesAreRead
modules_read symbology p scale some =
    ap (option_and_then (read_label symbology)) (sample-raster p (quiet_zone symbology) scale some)

module _ (symbology : AnySymbology) (p : Picture) (scale : ℕ) (some : 0 < scale) where
  -- dots that are no whole number of cells are not read
  pub part_unread : are_whole_cells p scale (quiet_zone symbology) ≡ false → read_dots symbology scale (raster p) ≡ None
  part_unread part = rw (sample_is p scale (quiet_zone symbology) some, part) refl

  -- others are read as their modules are, if each dot has the colour of its cell
  pub whole_read : are_whole_cells p scale (quiet_zone symbology) ≡ true → read_dots symbology scale (raster p)
      ≡ option_and_then (then_some (list_all (is_row_of_cells p scale (quiet_zone symbology)) (below p.height)))
      (read_label symbology (raster (modules_in p scale (quiet_zone symbology))).rows)
  whole_read whole = rw (sample_is p scale (quiet_zone symbology) some, whole)
      (test_after (read_label symbology) (raster (modules_in p scale (quiet_zone symbology))).rows
      (list_all (is_row_of_cells p scale (quiet_zone symbology)) (below p.height)))

readable_read : (symbol : Symbol) (scale : ℕ) → 0 < scale → IsReadable symbol
    → read_dots symbol.symbology scale
    (raster (enlargement (with_quiet_zone symbol.modules (quiet_zone symbol.symbology)) scale)) ≡ Some symbol.full
readable_read symbol scale some is =
    modules_read symbol.symbology symbol.modules scale some
    ∙ read_if_width symbol.symbology symbol.modules is.some_rows is.columns is.wide ∙ is.read

pub drawn_read : (found : Result Symbol Fault) (scale : ℕ) → 0 < scale → IfOk found IsReadable
    → IfOk found (λ symbol. read_dots symbol.symbology scale
    (raster (enlargement (with_quiet_zone symbol.modules (quiet_zone symbol.symbology)) scale)) ≡ Some symbol.full)
drawn_read (Ok symbol) scale some is = readable_read symbol scale some is
drawn_read (Err fault) scale some is = tt
