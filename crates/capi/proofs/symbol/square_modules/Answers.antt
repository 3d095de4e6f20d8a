use Rattle.std.proofs.Common.{refl, sym}
use Rattle.labelcore.specs.declared.symbology.Symbology.TheVariants.{Qr}
use Rattle.filter.specs.Symbol.{Symbol}
use Rattle.picture.specs.Picture.{symbol_picture}
use Rattle.capi.proofs.symbol.square_modules.Goals as goal

pub returns-in-Ok-clause-answers : goal.returns-in-Ok-clause-answers
returns-in-Ok-clause-answers c =
    let side = sym c.side-side.ensures.value in
    let symbol : Symbol = record { symbology = Qr; full = c.args.bytes.now; modules = symbol_picture c.in-Ok.matrix } in
    let size = c.info_of-info.ensures.size symbol refl side side in
    let drawn_as = c.info_of-info.ensures.drawn symbol refl side in
    rw c.in-Ok.ensures.symbol (
      c.offer_grid.ensures c.args.message.now,
      (
        record {
          width = size.width;
          rows = size.rows;
          left = size.left;
          right = size.right;
          top = size.top;
          bottom = size.bottom;
          unused = size.unused;
        },
        record { symbology = drawn_as.symbology; height = drawn_as.height },
      ),
    )

pub returns-in-Err-clause-answers : goal.returns-in-Err-clause-answers
returns-in-Err-clause-answers c = rw c.in-Err.ensures.refused (c.told_nothing.ensures _ _ _ _ refl c.refused.ensures)
