use Rattle.std.proofs.Common.{◌∙◌, ◌&&◌, arith, sym}
use Rattle.std.specs.Prelude.{nat_lt}
use Rattle.reading.proofs.SquareLaws.{square_of_words}
use Rattle.reading.proofs.WidthLaws.{square_if_short}
use Rattle.reading.proofs.packed.Packed.read.Goals as goal

pub returns : goal.returns
returns c = λ p packs.
    let packed = c.args.self.now in
    c.read.ensures
    ∙ square_of_words p packed.rows packed.side packs.wide packs.high
    (omega (arith, packs.count, packed.narrow))
    (λ x y below. packs.modules x y below ∙ (λ i. nat_lt x (sym packs.wide i) && p.dark x y))
    ∙ sym (square_if_short p (omega (arith, packs.wide, packed.narrow)))
