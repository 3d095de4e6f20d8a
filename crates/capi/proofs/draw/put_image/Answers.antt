use Rattle.capi.proofs.draw.put_image.Goals as goal

pub returns-in-Refuse-clause-answers : goal.returns-in-Refuse-clause-answers
returns-in-Refuse-clause-answers c = rw (c.in-Ok.is, c.in-Refuse.is) (c.refused.ensures c.args.out.now)
