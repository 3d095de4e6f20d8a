use Rattle.capi.proofs.BitLaws.{read_in_dots}
use Rattle.capi.proofs.bitmap.bitmap_is_read.Goals as goal

pub returns : goal.returns
returns c =
    let low = c.prove_ranges.ensures.scale_low in
    read_in_dots c.args.run.now _ low c.readings_are_alone.ensures (c.labels_are_read.ensures c.args.run.now.scale low)
