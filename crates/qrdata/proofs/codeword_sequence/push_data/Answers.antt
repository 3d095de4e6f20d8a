use Rattle.std.proofs.Common.{◌≡◌, ◌*◌, ◌/◌, ◌++◌, Bool, List, [], length, arith, ap, refl, ◌∙◌}
use Rattle.qrdata.specs.Bits.{codewords_of}
use Rattle.qrdata.specs.Private.BitsInCodewords.{bits_in}
use Rattle.qrdata.specs.Codewords.{with_zeros, with_terminator, with_pad_codewords, data_codewords_of}
use Rattle.qrdata.specs.Segments.{segments_bits}
use Rattle.qrdata.specs.Versions.{data_codewords}
use Rattle.qrdata.proofs.Laws.VersionLaws.{capacity-le, data_codewords-few}
use Rattle.qrdata.proofs.Laws.LengthLaws.{length-segments_bits}
use Rattle.qrdata.proofs.Laws.PaddingLaws.{length-codewords_of}
use Rattle.qrdata.proofs.codeword_sequence.push_data.Goals as goal

-- bits that are written where there were none are all bits
all_bits : {none written bits : List Bool} → written ≡ none ++ bits → none ≡ [] → written ≡ bits
all_bits e empty = rw (e, empty) refl

pub push_segments-requires-clause-room : goal.push_segments-requires-clause-room
push_segments-requires-clause-room c = omega (
  arith,
  ap length c.requires.empty,
  c.requires.plan.fits,
  capacity-le c.args.level c.args.version c.prove_range.ensures,
)

pub end-requires : goal.end-requires
end-requires c = record {
  fits = omega (
    arith,
    ap length (all_bits c.push_segments.ensures c.requires.empty),
    c.requires.plan.fits,
    c.data_words-size.ensures,
    length-segments_bits c.args.version c.args.segments.now c.args.bytes.now c.requires.plan.cut,
  );
  size = omega (
    arith,
    data_codewords-few c.args.version c.args.level c.data_words-size.ensures c.prove_range.ensures,
  );
}

pub returns : goal.returns
unfolding data_codewords_of with_pad_codewords
returns c =
    let bits = segments_bits c.args.version c.args.segments.now c.args.bytes.now in
    let size = data_codewords c.args.version c.args.level in
    let ended : bits_in c.end.new.self ≡ with_zeros (with_terminator (8 * size) bits) =
    rw (c.end.ensures.bits, all_bits c.push_segments.ensures c.requires.empty, c.data_words-size.ensures) refl in
    let codewords : c.end.new.self.codewords.items
    ≡ codewords_of (length (with_zeros (with_terminator (8 * size) bits)) / 8) (with_zeros (with_terminator
    (8 * size) bits)) =
    c.end.ensures.codewords ∙ ap (λ l. codewords_of (length l / 8) l) ended in
    let count : c.len.result ≡ length (with_zeros (with_terminator (8 * size) bits)) / 8 =
    c.len.ensures.value ∙ (ap length codewords
    ∙ length-codewords_of (length (with_zeros (with_terminator (8 * size) bits)) / 8) (with_zeros (with_terminator
    (8 * size) bits))) in
    rw (c.push_padding.ensures, count, codewords, c.data_words-size.ensures) refl

pub push_padding-requires : goal.push_padding-requires
push_padding-requires c = record {
  room = omega (
    arith,
    c.len.ensures.value,
    c.end.ensures.count,
    data_codewords-few c.args.version c.args.level c.data_words-size.ensures c.prove_range.ensures,
  );
}
