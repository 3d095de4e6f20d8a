use Rattle.capi.proofs.bitmap.square_bitmap.Goals as goal

pub returns-in-Ok : goal.returns-in-Ok
returns-in-Ok c = rw c.in-Ok.ensures.symbol (rw c.zone_of.ensures.zone at (c.offer_bitmap.ensures c.args.message.now))

pub returns-in-Err : goal.returns-in-Err
returns-in-Err c = rw c.in-Err.ensures.refused (c.no_bitmap.ensures _ _ _ _ (c.refused.ensures c.args.bits.now))
