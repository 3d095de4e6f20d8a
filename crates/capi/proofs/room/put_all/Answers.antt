use Rattle.std.proofs.Common.{arith, ap, sym, ◌-◌, ◌+◌, ◌≡◌, ◌∙◌, List, ℕ, length}
use Rattle.std.proofs.Math.Seq.{take-length}
use borrow.Rule.Slice.PartMut.{put_mid}
use Rattle.capi.proofs.SliceLaws.{put_fits}
use Rattle.capi.proofs.room.put_all.Goals as goal

pub returns : goal.returns
returns c =
    let bytes = c.args.bytes.now in
    let n = length bytes in
    let size : c.args.at + n - c.args.at ≡ n = omega arith in
    rw (size, c.copy_from_slice.ensures.after)
    (ap (λ (text : List ℕ). put_mid c.args.at n c.args.room.now text) (sym (take-length bytes))
    ∙ put_fits c.args.room.now c.args.at bytes n (omega (arith, c.requires)) (omega (arith, c.requires)))
