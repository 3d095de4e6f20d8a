use Rattle.std.proofs.Common.{◌≡◌, arith, length-take, min, rules, take}
use Rattle.std.specs.List.{count_by, sum_by}
use Rattle.std.specs.Prelude.{nat_lt}
use Rattle.std.proofs.lemmas.List.Sums.{count_by-le-length}
use Rattle.qr_reading.proofs.DeinterleavingLaws.{few_below}
use Rattle.qr_reading.proofs.block_reading.interleaving_place.Goals as goal

pub overflow_add-result : goal.overflow_add-result
overflow_add-result c =
    let lengths = c.args.lengths.now in
    let before : c.sum-before.result ≡ sum_by (min c.args.place) lengths = search rules in
    let at_place : c.count-here.result ≡ count_by (nat_lt c.args.place) (take c.args.block lengths) = search rules in
    omega (
      arith,
      before,
      at_place,
      count_by-le-length (nat_lt c.args.place) (take c.args.block lengths),
      length-take c.args.block lengths,
      few_below c.args.place lengths c.requires.place c.requires.block.1,
    )
