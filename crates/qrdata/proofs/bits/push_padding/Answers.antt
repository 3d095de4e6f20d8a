use Rattle.std.proofs.Common.{◌%◌, ℕ, append_assoc, arith}
use Rattle.std.specs.Prelude.{◌==◌, if◌then◌else◌}
use Rattle.std.proofs.lemmas.List.FromFn.{map-range_with_len_more}
use Rattle.qrdata.proofs.bits.push_padding.Goals as goal

pub loop-place-preserved : goal.loop-place-preserved
loop-place-preserved c =
    let place = c.loop-place.place in
    let more = map-range_with_len_more {X = ℕ} (λ i. if i % 2 == 0 then 0xEC else 0x11) 0 place place (omega arith) in
    record {
      written = rw (c.push.ensures.items, c.pad_codeword.ensures, c.loop-place.invariant.written, more, append_assoc);
      size = omega (arith, c.push.ensures.len, c.loop-place.invariant.size);
    }
