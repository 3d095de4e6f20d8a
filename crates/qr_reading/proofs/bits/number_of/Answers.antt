use Rattle.std.proofs.Common.{rules, ◌≡◌, ◌∙◌}
use Rattle.qr_reading.proofs.BitListLaws.{fold_bits, folded}
use Rattle.qr_reading.proofs.bits.number_of.Goals as goal

pub returns : goal.returns
returns c = let all : c.fold.result ≡ folded 0 c.args.bits.now = search rules in all ∙ fold_bits c.args.bits.now c.requires
