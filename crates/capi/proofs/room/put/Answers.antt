use Rattle.std.proofs.Common.{arith, sym, ◌-◌, ◌+◌, ◌≡◌}
use Rattle.capi.proofs.SliceLaws.{put_fits}
use Rattle.capi.specs.Private.Puts.{put_past}
use Rattle.capi.proofs.room.put.Goals as goal

pub returns-then-at-room : goal.returns-then-at-room
returns-then-at-room c =
    let n = c.min-count.result in
    let size : c.args.at + n - c.args.at ≡ n = omega arith in
    rw (size, c.copy_from_slice.ensures.after)
    (put_fits c.args.room.now c.args.at c.args.bytes.now n (omega arith) (omega arith))

pub returns-else-at-room : goal.returns-else-at-room
returns-else-at-room c = sym (put_past c.args.room.now c.args.at c.args.bytes.now (omega arith))
