use Rattle.std.proofs.Common.{◌≡◌, ◌+◌, ◌-◌, ◌&&◌, ◌∷◌, ◌==◌, [], ap, arith, refl, slice_index}
use Rattle.std.specs.Prelude.{nat_lt}
use Rattle.std.proofs.lemmas.Nat.Bits.{bit_at-lt, shr_and_one}
use Rattle.qrmatrix.specs.Bits.{bit}
use Rattle.labelcore.proofs.Laws.ComputedLaws.{by_four}
use Rattle.reading.proofs.SquareLaws.{column_seen, moved_bit, row_seen}
use Rattle.reading.proofs.packed.Packed.four_column_words.Goals as goal

pub loop-y-preserved : goal.loop-y-preserved
loop-y-preserved c =
    let rows = c.args.self.now.rows in
    let x = c.args.x in
    let y = c.loop-y.y in
    let row = slice_index rows y in
    let one = shr_and_one row x in
    let few = bit_at-lt row x in
    let was = c.loop-y.invariant in
    let second = moved_bit row x 1 in
    let third = moved_bit row x 2 in
    let fourth = moved_bit row x 3 in
    record {
      first = row_seen rows x y c.loop-y.first _ was.first (omega (arith, one, few)) (ap (λ z. z == 1) one);
      second = row_seen rows (x + 1) y c.loop-y.second _ was.second second.0 second.1;
      third = row_seen rows (x + 2) y c.loop-y.third _ was.third third.0 third.1;
      fourth = row_seen rows (x + 3) y c.loop-y.fourth _ was.fourth fourth.0 fourth.1;
    }

pub returns : goal.returns
returns c = λ k i few.
    let rows = c.args.self.now.rows in
    let side = c.args.self.now.side in
    let x = c.args.x in
    let y = c.loop-y.y in
    let was = c.loop-y.invariant in
    let last : y ≡ side = omega (arith, c.loop-y-test.false, c.loop-y.auto.y-end) in
    let words = c.loop-y.first ∷ c.loop-y.second ∷ c.loop-y.third ∷ c.loop-y.fourth ∷ [] in
    by_four (λ k. bit (slice_index words k) i ≡ (nat_lt i side && bit (slice_index rows (side - 1 - i)) (x + k)))
    (column_seen rows x (x + 0) y side c.loop-y.first (omega arith) last was.first i)
    (column_seen rows (x + 1) (x + 1) y side c.loop-y.second refl last was.second i)
    (column_seen rows (x + 2) (x + 2) y side c.loop-y.third refl last was.third i)
    (column_seen rows (x + 3) (x + 3) y side c.loop-y.fourth refl last was.fourth i) k few
