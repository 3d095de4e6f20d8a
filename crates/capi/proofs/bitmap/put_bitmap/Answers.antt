use Rattle.capi.proofs.bitmap.put_bitmap.Goals as goal

pub returns-in-Err-clause-answers : goal.returns-in-Err-clause-answers
returns-in-Err-clause-answers c =
    rw c.in-Err.is (c.no_bitmap.ensures _ _ _ _ (c.declined_at.ensures c.args.bits.now c.args.message.now))

pub returns-in-Skip-clause-answers : goal.returns-in-Skip-clause-answers
returns-in-Skip-clause-answers c =
    rw (c.in-Ok.is, c.in-Skip.is)
    (c.no_bitmap-in-Skip.ensures _ _ _ _ (c.declined.ensures c.args.bits.now c.args.message.now))

pub returns-in-Refuse-clause-answers : goal.returns-in-Refuse-clause-answers
returns-in-Refuse-clause-answers c =
    rw (c.in-Ok.is, c.in-Refuse.is) (c.no_bitmap-in-Refuse.ensures _ _ _ _ (c.refused.ensures c.args.bits.now))
