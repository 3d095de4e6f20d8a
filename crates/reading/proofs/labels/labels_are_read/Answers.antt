use Rattle.filter.proofs.Laws.ReadLaws.{data_is_readable}
use Rattle.reading.proofs.LabelLaws.{drawn_read}
use Rattle.reading.proofs.labels.labels_are_read.Goals as goal

pub returns : goal.returns
returns c = λ scale some. drawn_read _ scale some (data_is_readable c.args.options.now c.prove_ranges.ensures _ _ c.requires
    c.type_inv.bytes)
