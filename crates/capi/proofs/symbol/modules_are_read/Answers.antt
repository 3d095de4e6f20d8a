use Rattle.std.proofs.Common.{arith}
use Rattle.filter.proofs.Laws.ReadLaws.{modules_of_data_read}
use Rattle.capi.proofs.ModuleLaws.{lowered, reads_lowered}
use Rattle.capi.specs.Private.Asking.{one_row}
use Rattle.capi.proofs.symbol.modules_are_read.Goals as goal

pub returns : goal.returns
returns c =
    let label = c.args.label.now in
    let range = c.prove_ranges.ensures in
    reads_lowered _ _ (lowered label c.args.symbology c.args.bytes.now)
    (modules_of_data_read (record { run = c.args.run.now; label = one_row label })
    (record {
      scale_low = range.scale_low;
      scale_high = range.scale_high;
      height_low = omega arith;
      height_high = omega arith;
      version_low = range.version_low;
      version_high = range.version_high;
      mask_fits = range.mask_fits;
    }) c.args.symbology c.args.bytes.now c.requires c.type_inv.bytes)
