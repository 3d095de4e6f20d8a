use Rattle.std.proofs.Common.{◌*◌, arith, length, rules}
use Rattle.std.proofs.lemmas.List.FromFn.{fill_by_all}
use Rattle.std.proofs.lemmas.Grind.{common_steps}
use Rattle.capi.specs.Bitmap.{byte_at}
use Rattle.capi.proofs.bit_rows.pack.Goals as goal

pub loop-j-preserved : goal.loop-j-preserved
loop-j-preserved c = record {
  size = search rules;
  so_far = λ k below. grind (arith, common_steps, c.loop-j.invariant.so_far k);
}

pub returns : goal.returns
returns c =
    let inv = c.loop-j.invariant in
    fill_by_all (λ j. byte_at c.args.dots.now (8 * j)) c.loop-j.row (length c.args.row.now) 0 inv.size
    (λ k h. inv.so_far k (omega (arith, h, inv.size)))
