use Rattle.std.proofs.Common.{inl, inr, sym}
use Rattle.labelcore.specs.declared.symbology.Symbology.TheVariants.{Qr}
use Rattle.picture.specs.Reading.{raster}
use Rattle.reading.proofs.SquareLaws.{not_square, wide_square}
use Rattle.reading.proofs.WidthLaws.{none_if_unread}
use Rattle.reading.proofs.squares.read_square.Goals as goal

pub returns-in_err-of : goal.returns-in_err-of
returns-in_err-of g c =
    let p = g.G.Grid.picture c.args.modules.now in
    rw c.from_residual.ensures (sym (none_if_unread Qr (raster p).rows (elim c.in_err-of.ensures [
      | inl other ↦ not_square p other
      | inr wide ↦ wide_square p wide
    ])))

pub returns : goal.returns
returns g c = c.read.ensures (g.G.Grid.picture c.args.modules.now) c.in_ok-of.ensures
