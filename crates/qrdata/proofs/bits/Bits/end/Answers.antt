use Rattle.std.proofs.Common.{◌≡◌, ◌-◌, ◌*◌, ◌%◌, ◌<◌, ◌++◌, length, length-append, replicate, arith, ap, refl, ◌∙◌}
use Rattle.std.proofs.Common.{false, min}
use Rattle.std.proofs.lemmas.List.Elements.{recursion_from_All}
use Rattle.qrdata.specs.Bits.{bits_of}
use Rattle.qrdata.specs.Private.BitsInCodewords.{bits_in}
use Rattle.qrdata.specs.Codewords.{with_zeros, with_terminator}
use Rattle.qrdata.proofs.Laws.BitStringLaws.{length-bits_of}
use Rattle.qrdata.proofs.Laws.PaddingLaws.{IsEnded-of, bits_of-zero, length-bits_in, whole_codewords}
use Rattle.qrdata.proofs.bits.Bits.end.Goals as goal

pub push_number-requires-2-clause-room : goal.push_number-requires-2-clause-room
push_number-requires-2-clause-room c =
    let bits = bits_in c.args.self.now in
    omega (
      arith,
      ap length c.push_number.ensures,
      length-append bits (bits_of c.min.result 0),
      length-bits_of c.min.result 0,
      c.min.ensures,
      c.len.ensures,
      c.requires.fits,
      c.requires.size,
      length-bits_in c.push_number.new.self,
      c.push_number.new.self.rest.few,
    )

pub returns-clause-bits : goal.returns-clause-bits
unfolding with_zeros with_terminator
returns-clause-bits c =
    let bits = bits_in c.args.self.now in
    let rest = c.push_number.new.self.rest in
    let few : c.min.result ≡ min 4 (8 * c.args.size - length bits) = omega (arith, c.min.ensures, c.len.ensures) in
    let whole = bits ++ replicate (min 4 (8 * c.args.size - length bits)) false in
    let ended : bits_in c.push_number.new.self ≡ whole = rw (c.push_number.ensures, few, bits_of-zero) refl in
    let over : rest.count ≡ length (bits_in c.push_number.new.self) % 8 =
    omega (arith, length-bits_in c.push_number.new.self, rest.few) in
    let zeros : bits_of ((8 - rest.count) % 8) 0 ≡ replicate ((8 - length whole % 8) % 8) false =
    bits_of-zero ((8 - rest.count) % 8) ∙ ap (λ k. replicate ((8 - k) % 8) false)
    (over ∙ ap (λ l. length l % 8) ended) in
    c.push_number-2.ensures ∙ (ap (λ l. l ++ bits_of ((8 - rest.count) % 8) 0) ended ∙ ap (λ z. whole ++ z) zeros)

pub returns-clause-codewords : goal.returns-clause-codewords
returns-clause-codewords c =
    let codewords = c.push_number-2.new.self.codewords.items in
    whole_codewords c.push_number-2.new.self _
    (recursion_from_All (λ b. b < 256) codewords (rw c.as_slice.ensures.value at c.are_bytes.ensures)) refl

pub returns-clause-count : goal.returns-clause-count
returns-clause-count c =
    let ended = IsEnded-of c.args.size (bits_in c.args.self.now) c.requires.fits in
    omega (arith, ap length (returns-clause-bits c), ended.whole, length-bits_in c.push_number-2.new.self)
