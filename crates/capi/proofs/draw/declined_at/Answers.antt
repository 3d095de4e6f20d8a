use Rattle.std.proofs.Common.{refl, sym, arith}
use Rattle.capi.specs.Private.Puts.{put_nothing}
use Rattle.capi.proofs.draw.declined_at.Goals as goal

pub returns : goal.returns
returns c = λ out message. record {
  code_is = refl;
  unused = refl;
  at = refl;
  nothing = refl;
  size = omega arith;
  out = refl;
  message = sym (put_nothing message 0);
}
