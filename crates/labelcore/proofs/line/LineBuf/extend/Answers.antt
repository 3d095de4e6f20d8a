use Rattle.std.proofs.Common.{◌∙◌, Result, Ok, Err, ℕ, arith, rules, length-take}
use Rattle.std.specs.Prelude.{IsOk, OnOk}
use Rattle.labelcore.proofs.Laws.HeldLaws.{extended_all, extended_some}
use Rattle.labelcore.proofs.line.LineBuf.extend.Goals as goal

-- what is said of a call that succeeds, where it does
where_ok : {T E P : Type 0} (r : Result T E) → IsOk r → OnOk r P → P
where_ok (Ok x) is said = said
where_ok (Err fault) is said = search rules

pub returns-then-bytes-room : goal.returns-then-bytes-room
returns-then-bytes-room c line is =
    let whole = where_ok c.try_extend_from_slice.result (c.try_extend_from_slice.ensures.variant.1 (omega arith))
    c.try_extend_from_slice.ensures.ok in
    rw whole (extended_all c.self.inside.bytes.items c.remaining_capacity-room.result c.self.inside.too_long line
    c.args.bytes.now (c.self.view_is ∙ is) (omega arith) c.if-bytes-room.true)

pub returns-else-bytes-room : goal.returns-else-bytes-room
returns-else-bytes-room c line is =
    let call = c.try_extend_from_slice-else-bytes-room in
    let whole = where_ok call.result (call.ensures.variant.1 (omega (arith, length-take {A = ℕ}))) call.ensures.ok in
    rw whole (extended_some c.self.inside.bytes.items c.remaining_capacity-room.result c.self.inside.too_long line
    c.args.bytes.now (c.self.view_is ∙ is) (omega arith) c.if-bytes-room.false)
