use Rattle.std.proofs.Common.{◌+◌, ◌*◌, List, ℕ, ap, refl, ◌∙◌, length}
use Rattle.capi.proofs.BitLaws.{put_equal_more}
use Rattle.capi.specs.Private.BitRows.{put_equal}
use Rattle.capi.specs.Private.Puts.{put_length}
use Rattle.capi.specs.Room.{put_text}
use Rattle.capi.proofs.bit_rows.put_equal_rows.Goals as goal

pub loop-k-init : goal.loop-k-init
unfolding put_equal
loop-k-init c = record { size = refl; rows = refl }

pub loop-k-preserved : goal.loop-k-preserved
loop-k-preserved c =
    let place = (c.args.y + c.loop-k.k) * c.args.stride in
    let row = c.args.row.now in
    record {
      size = ap length c.put_all.ensures ∙ (put_length c.loop-k.bits place row ∙ c.loop-k.invariant.size);
      rows = c.put_all.ensures ∙ (ap (λ (r : List ℕ). put_text r place row) c.loop-k.invariant.rows
          ∙ put_equal_more c.args.stride row c.args.bits.now c.args.y c.loop-k.k);
    }
