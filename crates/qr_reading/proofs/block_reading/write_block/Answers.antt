use Rattle.std.proofs.Common.{rules, ◌≡◌, ℕ, arith, sym}
use Rattle.std.specs.Prelude.{slice_index}
use Rattle.std.proofs.lemmas.List.FromFn.{map-range_with_len_more}
use Rattle.qrdata.specs.Reading.{interleaving_place}
use Rattle.qr_reading.proofs.block_reading.write_block.Goals as goal

pub loop-place-preserved : goal.loop-place-preserved
loop-place-preserved c =
    let codeword_of = λ (i : ℕ). slice_index c.args.codewords.now (interleaving_place c.args.lengths.now c.args.block i) in
    let place = c.loop-place.place in
    let value : c.unwrap_or.result ≡ codeword_of place = search rules in
    record {
      all = rw (c.push.ensures.items, value, c.loop-place.invariant.all)
          (sym (map-range_with_len_more codeword_of 0 place place (omega arith)));
      count = omega (arith, c.push.ensures.len, c.loop-place.invariant.count);
    }
