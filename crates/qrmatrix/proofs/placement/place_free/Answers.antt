use Rattle.std.proofs.Common.{◌≡◌, sym, ap, ◌∙◌, ◌+◌, ◌-◌, ◌*◌, refl, arith}
use Rattle.qrmatrix.specs.Placement.{codeword_bit}
use Rattle.qrmatrix.proofs.CursorLaws.{renumbered, row_placed}
use Rattle.qrmatrix.proofs.TwoBitsLaws.{bits_after}
use Rattle.qrmatrix.proofs.Laws.RowBitsLaws.{up_narrow}
use Rattle.qrmatrix.proofs.placement.place_free.Goals as goal

pub loop-j-init : goal.loop-j-init
loop-j-init c = record {
  has = λ codewords i has k l.
      let same : i + k ≡ i + 2 * 0 + k = omega arith in
      has k (omega arith) ∙ ap (codeword_bit codewords) same;
  placed = λ free all codewords i has v start is marks p.
      renumbered c.args.strip.number i (i + 2 * 0) c.args.t (c.args.t + 0) (omega arith) (omega arith) p;
}

pub flip-requires-clause-row_bits : goal.flip-requires-clause-row_bits
flip-requires-clause-row_bits c =
    up_narrow c.bits_for_pair.result 2 c.args.strip.x c.bits_for_pair.ensures.bound (omega arith)

pub loop-j-preserved : goal.loop-j-preserved
loop-j-preserved c =
    let j = c.loop-j.j in
    record {
      has = λ codewords i has k l.
          let same : i + 2 * j + 2 + k ≡ i + 2 * (j + 1) + k = omega arith in
          bits_after (57 - 2 * j) 2 (57 - 2 * (j + 1)) c.loop-j.rest (i + 2 * j) codewords (omega arith) (omega arith)
          (c.loop-j.invariant.has codewords i has) k l ∙ ap (codeword_bit codewords) same;
      placed = λ free all codewords i has v start is marks p.
          let t = c.args.t + j in
          let rows = all j (omega arith) in
          let two = c.bits_for_pair in
          renumbered c.args.strip.number (i + 2 * j + 2) (i + 2 * (j + 1)) (t + 1) (c.args.t + (j + 1)) (omega arith)
          (omega arith)
          (row_placed c.args.strip free c.loop-j.modules c.flip.new.self codewords (i + 2 * j) t 3 two.result
          c.loop-j.rest (omega arith) c.requires.column (omega arith) two.ensures.bound two.ensures.value
          (λ k l. c.loop-j.invariant.has codewords i has k (omega arith)) (sym rows.1) (sym rows.0)
          (λ a b. c.flip.ensures a b ∙ rw c.row.ensures.value refl) v start is marks
          (c.loop-j.invariant.placed free all codewords i has v start is marks p));
    }

pub returns : goal.returns
returns c =
    λ free all codewords i has v start is marks p.
    renumbered c.args.strip.number (i + 2 * c.loop-j.j) (i + 2 * c.args.count) (c.args.t + c.loop-j.j)
    (c.args.t + c.args.count) (omega arith) (omega arith)
    (c.loop-j.invariant.placed free all codewords i has v start is marks p)
