use Rattle.std.proofs.Common.{◌≡◌, ◌+◌, ◌++◌, ◌∙◌, ℕ, List, [], ap, refl, subst, sym, arith, take, append-nil}
use Rattle.std.proofs.lemmas.Nat.{mul-le}
use Rattle.device.specs.declared.io_fault.IoFault.{IoFault}
use Rattle.device.proofs.Laws.WritingLaws.{HasWritten, HasWritten-call, WritesText-begun, WritesText-whole}
use Rattle.picture.specs.Private.Rows.{EndsWith, repeated, row_text}
use Rattle.picture.proofs.RepeatedLaws.{EndsWith-repeated, WritesText-repeated, length-repeated_row, repeated-add}
use Rattle.picture.proofs.Laws.WritingLaws.{flat_map-below_front}
use Rattle.picture.proofs.WritingLoopLaws.{HasWritten-below_more, WritesText-below_fails, below_more}
use Rattle.picture.proofs.kept_rows.write_equal_rows.Goals as goal

pub returns-in_err-write_row : goal.returns-in_err-write_row
returns-in_err-write_row g c =
    let row = row_text g.T.PixelText.text g.T.PixelText.row_end (take c.args.width c.args.kept.now) in
    let front = flat_map-below_front (λ _. row) 1 c.args.count (omega arith) in
    WritesText-begun g.S.Sink _ _ row front.0 _ c.from_residual.result c.from_residual.ensures.0
    (front.1 ∙ ap (λ (t : List ℕ). t ++ front.0) (append-nil row)) c.in_err-write_row.ensures

pub loop-written-init : goal.loop-written-init
loop-written-init g c =
    let row = row_text g.T.PixelText.text g.T.PixelText.row_end (take c.args.width c.args.kept.now) in
    record {
      some = omega arith;
      known = omega arith;
      few = omega arith;
      most = omega arith;
      rows = subst (HasWritten g.S.Sink c.args.sink.now c.write_row.new.sink) (sym (append-nil row))
          (HasWritten-call g.S.Sink _ _ _ c.in_ok-write_row.ensures);
    }

pub overflow_mul-rows : goal.overflow_mul-rows
overflow_mul-rows g c =
    let len = c.row_len-len.result in
    omega (
      arith,
      mul-le c.min-rows.result len c.rows_at_once-at_once.result len (omega arith) (omega arith),
      c.rows_at_once-at_once.ensures.most,
      c.row_len-len.type_inv,
    )

pub repeat_row-requires-clause-last : goal.repeat_row-requires-clause-last
repeat_row-requires-clause-last g c =
    let row = row_text g.T.PixelText.text g.T.PixelText.row_end (take c.args.width c.args.kept.now) in
    subst (λ s. EndsWith g.S.Sink.took s row) (sym (c.repeat.ensures.kept c.if-repeat.false))
    (subst (EndsWith g.S.Sink.took c.loop-written.sink) (append-nil row)
    (EndsWith-repeated g.S.Sink.took _ _ row c.loop-written.written 1 (omega arith) c.loop-written.invariant.rows.taken))

pub returns-in_err-repeat_row : goal.returns-in_err-repeat_row
returns-in_err-repeat_row g c =
    let row : ℕ → List ℕ = λ _.
    row_text g.T.PixelText.text g.T.PixelText.row_end (take c.args.width c.args.kept.now) in
    let k = c.loop-written.written in
    let written = subst (λ s. HasWritten g.S.Sink c.args.sink.now s (repeated k (row 0)))
    (sym (c.repeat.ensures.kept c.if-repeat.false)) c.loop-written.invariant.rows in
    WritesText-below_fails g.S.Sink g.met.S.Sink.took_joined row _ _ _ k _ _ (below_more row k _ refl) written
    c.args.count [] _ c.from_residual-in_err-repeat_row.result c.from_residual-in_err-repeat_row.ensures.0 (omega arith)
    (sym (append-nil _)) c.in_err-repeat_row.ensures

pub loop-written-preserved-then-repeat : goal.loop-written-preserved-then-repeat
loop-written-preserved-then-repeat g c =
    let row = row_text g.T.PixelText.text g.T.PixelText.row_end (take c.args.width c.args.kept.now) in
    let k = c.loop-written.written in
    let n = c.min-rows.result in
    let last = EndsWith-repeated g.S.Sink.took _ _ row k n (omega arith) c.loop-written.invariant.rows.taken in
    let len = length-repeated_row _ c.args.kept.now c.args.width n c.row_len-len.result (omega arith)
    c.row_len-len.ensures in
    record {
      some = omega arith;
      known = omega arith;
      few = omega arith;
      most = omega arith;
      rows = HasWritten-below_more g.S.Sink g.met.S.Sink.took_joined (λ _. row) _ _ _ k (k + n) _
          (sym (repeated-add row k n)) c.loop-written.invariant.rows
          (WritesText-repeated {T = ℕ} {E = IoFault} g.S.Sink _ _ _ _ c.repeat.result 0 c.if-repeat.true len last
          c.repeat.ensures);
    }

pub loop-written-preserved : goal.loop-written-preserved
loop-written-preserved g c =
    let row : ℕ → List ℕ = λ _.
    row_text g.T.PixelText.text g.T.PixelText.row_end (take c.args.width c.args.kept.now) in
    let k = c.loop-written.written in
    let written = subst (λ s. HasWritten g.S.Sink c.args.sink.now s (repeated k (row 0)))
    (sym (c.repeat.ensures.kept c.if-repeat.false)) c.loop-written.invariant.rows in
    record {
      some = omega arith;
      known = omega arith;
      few = omega arith;
      most = omega arith;
      rows = HasWritten-below_more g.S.Sink g.met.S.Sink.took_joined row _ _ _ k _ _ (below_more row k _ refl) written
          c.in_ok-repeat_row.ensures;
    }

pub returns : goal.returns
returns g c =
    let row = row_text g.T.PixelText.text g.T.PixelText.row_end (take c.args.width c.args.kept.now) in
    let last : c.args.count ≡ c.loop-written.written = omega (arith, c.loop-written.invariant.most) in
    rw last (WritesText-whole g.S.Sink _ _ (repeated c.loop-written.written row) tt c.loop-written.invariant.rows)
