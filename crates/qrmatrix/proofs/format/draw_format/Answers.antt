use Rattle.std.proofs.Common.{◌≡◌, ◌/◌, ◌^◌, ◌∙◌, ap, arith}
use Rattle.qrdata.specs.Versions.{side_of}
use Rattle.qrmatrix.specs.Functions.{role}
use Rattle.qrmatrix.specs.Private.Drawing.{format_module}
use Rattle.qrmatrix.specs.Private.Squares.{flip_if}
use Rattle.qrmatrix.specs.Square.{value_at}
use Rattle.std.proofs.lemmas.Nat.{and_le_r}
use Rattle.std.proofs.lemmas.Bool.Decides.{nat_tests}
use Rattle.qrmatrix.proofs.FormatLaws.{all_drawn, drawn_next, none_drawn}
use Rattle.qrmatrix.proofs.Laws.FunctionRowLaws.{index_right}
use Rattle.qrmatrix.proofs.Laws.RowBitsLaws.{up_narrow}
use Rattle.qrmatrix.proofs.format.draw_format.Goals as goal

pub loop-i-init : goal.loop-i-init
loop-i-init c = none_drawn c.side-side.result c.format_information-information.result c.args.modules.now

pub flip-requires-in-loop-i-clause-row_bits : goal.flip-requires-in-loop-i-clause-row_bits
flip-requires-in-loop-i-clause-row_bits c =
    let column = c.column_of_bit.ensures.inside in
    let small = and_le_r (c.format_information-information.result / 2 ^ c.loop-i.i) 1 in
    up_narrow c.from-dark.result 1 c.column_of_bit.result (omega (arith, c.from-dark.ensures)) (omega arith)

pub loop-i-preserved : goal.loop-i-preserved
loop-i-preserved c =
    let n = c.side-side.result in
    let width = c.side-side.ensures.value in
    drawn_next n c.format_information-information.result c.loop-i.i c.from-dark.result c.row_of_bit.result
    c.column_of_bit.result c.args.modules.now c.loop-i.modules c.flip.new.self c.flip-in-loop-i.new.self (omega arith)
    (omega arith) (omega arith) c.from-dark.ensures c.row_of_bit.ensures.value c.row_of_bit.ensures.inside
    c.column_of_bit.ensures.value c.column_of_bit.ensures.inside c.loop-i.invariant (λ a b. c.flip.ensures a b)
    (λ a b. c.flip-in-loop-i.ensures a b)

pub returns : goal.returns
returns c =
    let v = c.args.version in
    let n = side_of v in
    let known = c.side-side.ensures.known in
    let last : c.loop-i.i ≡ 15 = omega arith in
    let drawn = rw (last, c.side-side.ensures.value) at c.loop-i.invariant in
    let information = c.format_information-information.ensures in
    record {
      inside = λ x y lx ly. drawn x y
          ∙ all_drawn n c.format_information-information.result x y (role v x y) (value_at c.args.modules.now x y)
          (omega arith) lx ly (index_right v known.0 known.1 y ly x lx)
          ∙ ap (λ k. flip_if (format_module k (role v x y)) (value_at c.args.modules.now x y)) information;
      outside = record {
        columns = λ x y l. drawn x y ∙ grind (arith, nat_tests);
        rows = λ x y l. drawn x y ∙ grind (arith, nat_tests);
      };
    }
