use Rattle.filter.proofs.Laws.ReadLaws.{image_of_data_read}
use Rattle.filter.proofs.symbol.draw_in.Goals as goal

pub returns-in-Qr-clause-read : goal.returns-in-Qr-clause-read
returns-in-Qr-clause-read g c =
    image_of_data_read (record { run = c.args.run.now; label = c.args.label.now }) c.prove_ranges.ensures _ _ c.requires c.type_inv.bytes

pub returns-in_default : goal.returns-in_default
returns-in_default g c = record {
  drawn = c.draw_row.ensures;
  read = image_of_data_read (record { run = c.args.run.now; label = c.args.label.now }) c.prove_ranges.ensures _ _ c.requires c.type_inv.bytes;
}
