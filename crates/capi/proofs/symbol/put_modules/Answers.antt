use Rattle.std.proofs.Common.{refl}
use Rattle.capi.proofs.symbol.put_modules.Goals as goal

pub returns-in-Err-clause-answers : goal.returns-in-Err-clause-answers
returns-in-Err-clause-answers c =
    rw c.in-Err.is (c.told_nothing.ensures _ _ _ _ refl (λ out. c.declined_at.ensures out c.args.message.now))

pub returns-in-Skip-clause-answers : goal.returns-in-Skip-clause-answers
returns-in-Skip-clause-answers c =
    rw (c.in-Ok.is, c.in-Skip.is)
    (c.told_nothing-in-Skip.ensures _ _ _ _ refl (λ out. c.declined.ensures out c.args.message.now))

pub returns-in-Refuse-clause-answers : goal.returns-in-Refuse-clause-answers
returns-in-Refuse-clause-answers c =
    rw (c.in-Ok.is, c.in-Refuse.is) (c.told_nothing-in-Refuse.ensures _ _ _ _ refl c.refused.ensures)
