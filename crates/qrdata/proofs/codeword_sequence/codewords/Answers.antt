use Rattle.std.proofs.Common.{◌≡◌, ◌<◌, arith, refl, Some}
use Rattle.std.proofs.lemmas.List.Elements.{All-from_recursion, recursion_from_All}
use Rattle.qrdata.specs.Codewords.{symbol_codewords}
use Rattle.qrdata.specs.Reading.{data_in}
use Rattle.qrdata.specs.Segments.{segments_bits}
use Rattle.qrdata.specs.Versions.{data_codewords}
use Rattle.std.specs.Prelude.{All}
use Rattle.qrdata.proofs.Laws.CodewordByteLaws.{AreBytes-symbol_codewords}
use Rattle.qrdata.proofs.Laws.DamageLaws.{IsCorrected-of, IsGuarded-of}
use Rattle.qrdata.proofs.Laws.DataReadingLaws.{data_in-symbol_codewords, length-read}
use Rattle.qrdata.proofs.Laws.LengthLaws.{length-segments_bits}
use Rattle.qrdata.proofs.Laws.PaddingLaws.{length-data_codewords_of}
use Rattle.qrdata.proofs.codeword_sequence.codewords.Goals as goal

pub write_symbol-requires : goal.write_symbol-requires
write_symbol-requires c =
    let plan = c.args.plan.now in
    let bytes = c.args.«data».now in
    let fit = c.requires in
    let bits = segments_bits plan.version plan.segments bytes in
    let long = length-segments_bits plan.version plan.segments bytes fit.cut in
    record {
      whole = rw (
        c.as_slice.ensures.value,
        c.push_data.ensures,
        c.version-version.ensures.value,
        c.level-level.ensures,
        c.segments.ensures,
      )
          (length-data_codewords_of (data_codewords plan.version plan.level) bits (omega (arith, fit.fits)));
    }

pub returns : goal.returns
unfolding symbol_codewords
returns c =
    let plan = c.args.plan.now in
    let text = c.args.«data».now in
    let fit = c.requires in
    let known = rw c.version-version.ensures.value at c.version-version.ensures.known in
    let bytes = c.are_bytes.ensures in
    let written = c.write_symbol.new.codewords.items in
    let value : written ≡ symbol_codewords plan.version plan.level plan.segments text =
    rw (
      c.write_symbol.ensures,
      c.as_slice.ensures.value,
      c.push_data.ensures,
      c.version-version.ensures.value,
      c.level-level.ensures,
      c.segments.ensures,
    ) refl in
    let read : data_in plan.version plan.level written ≡ Some text =
    rw value (data_in-symbol_codewords plan.version plan.level plan.segments text known.0 known.1
    (recursion_from_All (λ b. b < 256) text bytes) fit.cut fit.fits) in
    let elements : All (λ w. w < 256) written = rw value (All-from_recursion (λ w. w < 256) _
    (AreBytes-symbol_codewords plan.version plan.level plan.segments text known.0 known.1)) in
    record {
      value = value;
      count = length-read plan.version plan.level written text read;
      read = read;
      guarded = IsGuarded-of plan.version plan.level written text known elements read;
      corrected = IsCorrected-of plan.version plan.level written text known elements read;
    }
