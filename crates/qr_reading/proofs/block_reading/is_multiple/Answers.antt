use Rattle.std.proofs.Common.{ap, subst, ◌∙◌}
use Rattle.std.specs.Prelude.{bytes_eq}
use Rattle.std.proofs.lemmas.List.{take_at}
use Rattle.gf256.specs.ErrorCorrection.{AreEcCodewords}
use Rattle.qr_reading.proofs.DeinterleavingLaws.{remainder_tests}
use Rattle.qr_reading.proofs.block_reading.is_multiple.Goals as goal

pub returns : goal.returns
returns c =
    let count = c.args.count in
    let block = c.args.block.now in
    let remainder = c.parity.new.out in
    let are = subst (λ k. AreEcCodewords k block remainder) c.requires.count.0 c.parity.ensures in
    c.eq.ensures
    ∙ ap (bytes_eq c.args.ec_codewords.now) (take_at remainder _ count are.remainder.ec_codewords_length)
    ∙ remainder_tests count block c.args.ec_codewords.now remainder are c.requires.count.1 c.requires.short
    c.are_bytes.ensures c.are_bytes-2.ensures
