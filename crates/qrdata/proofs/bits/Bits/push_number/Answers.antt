use Rattle.std.proofs.Common.{◌≡◌, ◌+◌, ◌-◌, ◌*◌, ◌/◌, ◌%◌, ◌^◌, [], ◌∷◌, ◌++◌, append_assoc, arith, ap, sym, ◌∙◌}
use Rattle.std.proofs.Common.{length-append}
use Rattle.qrdata.specs.Bits.{bits_of}
use Rattle.qrdata.specs.Segments.{byte_bits}
use Rattle.qrdata.proofs.Laws.BitStringLaws.{bits_of-joined, bits_of-low, bits_of-parts, length-bits_of}
use Rattle.qrdata.proofs.Laws.PaddingLaws.{byte_bits-append, byte_bits-single, length-byte_bits}
use Rattle.qrdata.proofs.bits.Bits.push_number.Goals as goal

pub loop-count-init : goal.loop-count-init
loop-count-init c =
    let codewords = c.args.self.now.codewords.items in
    let rest = c.args.self.now.rest in
    let long = length-append (byte_bits codewords) (bits_of rest.count rest.number) in
    rw c.power_of_two-unit.ensures (record {
      written = rw (bits_of-joined rest.count c.args.width rest.number c.args.number)
          (sym (append_assoc (byte_bits codewords) (bits_of rest.count rest.number)
          (bits_of c.args.width c.args.number)));
      few = omega (arith, rest.few, c.requires.narrow);
      room = omega (arith, long, length-byte_bits codewords, length-bits_of rest.count rest.number, c.requires.room);
    })

pub loop-count-preserved : goal.loop-count-preserved
loop-count-preserved c =
    let n = c.loop-count.count - 8 in
    let unit = c.power_of_two-unit.result in
    let value = c.args.self.now.rest.number * unit + c.args.number % unit in
    let codewords = c.loop-count.self.codewords.items in
    let count : c.loop-count.count ≡ 8 + n = omega (arith, c.loop-count-test.true) in
    let parts : bits_of c.loop-count.count value ≡ bits_of 8 (value / 2 ^ n) ++ bits_of n value =
    ap (λ k. bits_of k value) count ∙ bits_of-parts 8 n value in
    let pushed : c.push.new.self.items ≡ codewords ++ value / 2 ^ n % 2 ^ 8 ∷ [] =
    rw (← c.power_of_two.ensures) c.push.ensures.items in
    record {
      written = rw (
        pushed,
        byte_bits-append,
        byte_bits-single,
        append_assoc (byte_bits codewords),
        bits_of-low 8 (value / 2 ^ n),
      ) (rw parts at c.loop-count.invariant.written);
      few = omega (arith, c.loop-count.invariant.few);
      room = omega (arith, c.loop-count.invariant.room, c.push.ensures.len, c.loop-count-test.true);
    }

pub returns : goal.returns
returns c =
    rw (c.power_of_two-2.ensures, bits_of-low) c.loop-count.invariant.written
