use Rattle.std.proofs.Common.{◌∙◌, arith, inl, inr}
use Rattle.picture.proofs.Laws.GridLaws.{pixel_row-light, put_mid-pixel_row}
use Rattle.picture.proofs.framed.FramedGrid.read_row.Goals.{else-self-y-via-then-self-y+else-y-self}
use Rattle.picture.proofs.framed.FramedGrid.read_row.Goals.{else-self-y-via-else-self-y}
use Rattle.picture.proofs.framed.FramedGrid.read_row.Goals as goal

pub returns-then-y-self : goal.returns-then-y-self
returns-then-y-self g c =
    put_mid-pixel_row (g.G.Grid.picture c.args.self.now.grid) c.args.self.now.zone c.args.y c.fill.new.self
    c.read_row.new.pixels c.width.result (rw c.requires.whole at (c.fill.ensures.after (λ y e. e))) c.width.ensures
    (omega arith) (omega (arith, c.height.ensures)) c.read_row.ensures

pub returns-else-self-y : goal.returns-else-self-y
returns-else-self-y g c =
    let p = g.G.Grid.picture c.args.self.now.grid in
    let zone = c.args.self.now.zone in
    (rw c.requires.whole at (c.fill.ensures.after (λ y e. e))) ∙ elim c.else-self-y.branch [
      | else-self-y-via-then-self-y+else-y-self w ↦
          pixel_row-light p zone c.args.y (inr (omega (arith, w.height.ensures)))
      | else-self-y-via-else-self-y w ↦ pixel_row-light p zone c.args.y (inl (omega arith))
    ]
