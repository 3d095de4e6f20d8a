use Rattle.std.proofs.Common.{ap, arith, drop, length, replicate, rules, sum, take, ◌*◌, ◌≡◌, ◌∙◌, Some}
use Rattle.std.proofs.lemmas.Bool.{leb-true}
use Rattle.std.proofs.lemmas.List.Sums.{AllPass-from_list_all}
use Rattle.qrdata.proofs.Laws.DataReadingLaws.{lengths_hold}
use Rattle.qrdata.proofs.Laws.PaddingLaws.{length-byte_bits}
use Rattle.qrdata.proofs.Laws.VersionLaws.{IsSound-of, data_codewords-few}
use Rattle.qrdata.specs.Reading.{segments_at}
use Rattle.qrdata.specs.Segments.{byte_bits}
use Rattle.qrdata.specs.Versions.{block_lengths, data_codewords, ec_codewords_per_block}
use Rattle.qr_reading.specs.Private.Blocks.{sound_blocks}
use Rattle.qr_reading.proofs.DeinterleavingLaws.{data_in-blocks}
use Rattle.qr_reading.proofs.block_reading.read_data.Goals as goal

pub split_at-requires : goal.split_at-requires
split_at-requires c =
    let sound = IsSound-of c.args.version c.args.level c.prove_range.ensures in
    omega (arith, sound.all, c.data_words.ensures, c.if-codewords-total_words.false, c.total_words.ensures)

pub sound_blocks-requires-clause-short : goal.sound_blocks-requires-clause-short
sound_blocks-requires-clause-short c =
    let sound = IsSound-of c.args.version c.args.level c.prove_range.ensures in
    let short = AllPass-from_list_all _ (block_lengths c.args.version c.args.level) sound.short_blocks in
    rw (c.deref.ensures.0, c.lengths-lengths.ensures, c.ec_codewords_per_block-count.ensures.value)
    (λ k d inside. leb-true _ 255 (short k d inside))

pub sound_blocks-requires-clause-few : goal.sound_blocks-requires-clause-few
sound_blocks-requires-clause-few c =
    let sound = IsSound-of c.args.version c.args.level c.prove_range.ensures in
    let holds = lengths_hold c.args.version c.args.level in
    let lengths = c.deref.ensures.0 ∙ c.lengths-lengths.ensures in (
      omega (arith, ap length lengths, holds.1, sound.few_blocks),
      omega (arith, ap sum lengths, holds.0, sound.all, sound.few_codewords),
    )

pub read_message-requires : goal.read_message-requires
read_message-requires c =
    let size = c.in-Some.ensures.len ∙ ap sum (c.deref.ensures.0 ∙ c.lengths-lengths.ensures)
    ∙ (lengths_hold c.args.version c.args.level).0 in
    omega (
      arith,
      data_codewords-few c.args.version c.args.level (ap length c.deref-3.ensures.0 ∙ size) c.prove_range.ensures,
    )

pub returns : goal.returns
returns c =
    let version = c.args.version in
    let level = c.args.level in
    let codewords = c.args.codewords.now in
    let k = ec_codewords_per_block version level in
    let lengths = block_lengths version level in
    let size = data_codewords version level in
    let sound : Some c.in-Some.message.items
    ≡ sound_blocks k lengths (replicate (length lengths) k) (take size codewords) (drop size codewords) = search rules in
    let message = c.deref-3.ensures.0 in
    let all = c.in-Some.ensures.len ∙ ap sum (c.deref.ensures.0 ∙ c.lengths-lengths.ensures)
    ∙ (lengths_hold version level).0 in
    let many : length (byte_bits c.in-Some.message.items) ≡ 8 * size =
    omega (arith, length-byte_bits c.in-Some.message.items, all) in
    rw (← data_in-blocks version level codewords (c.if-codewords-total_words.false ∙ c.total_words.ensures), ← sound)
    (c.read_message.ensures ∙ ap (λ l. segments_at version (length (byte_bits l)) (byte_bits l)) message
    ∙ ap (λ n. segments_at version n (byte_bits c.in-Some.message.items)) many)
