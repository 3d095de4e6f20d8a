use Rattle.capi.proofs.RowLaws.{all_light}
use Rattle.capi.proofs.bit_rows.put_dots.Goals as goal

pub put_rows-requires-clause-light : goal.put_rows-requires-clause-light
put_rows-requires-clause-light g c = all_light 512

pub put_rows-requires-else-width-le-FEW_DOTS-clause-light : goal.put_rows-requires-else-width-le-FEW_DOTS-clause-light
put_rows-requires-else-width-le-FEW_DOTS-clause-light g c = all_light 14520
