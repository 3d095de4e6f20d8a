use Rattle.std.proofs.Common.{◌∙◌}
use Rattle.capi.specs.Private.Puts.{put_nothing}
use Rattle.capi.proofs.draw.symbol_image.Goals as goal

pub returns-in-Err-clause-answers : goal.returns-in-Err-clause-answers
returns-in-Err-clause-answers c =
    let found = c.in-Err.ensures.refusal in
    let r = c.refused.ensures c.args.out.now in
    let kept = rw found at c.in-Err.ensures.put in
    rw found (record {
      code_is = r.code_is;
      unused = r.unused;
      at = r.at;
      nothing = r.nothing;
      size = r.size;
      out = kept ∙ put_nothing c.args.out.now 0;
      message = r.message;
    })
