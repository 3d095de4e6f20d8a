use Rattle.std.proofs.Common.{◌≡◌, ◌&&◌, drop}
use Rattle.std.specs.Prelude.{nat_lt}
use Rattle.std.specs.List.{list_all}
use Rattle.linear.proofs.code128.are_ascii.Given as goal

-- whether all bytes so far are ASCII, and all to come, is whether all bytes are
abbrev pub invariant-loop-byte : goal.invariant-loop-byte
invariant-loop-byte l =
    (l.all && list_all (λ byte. nat_lt byte 128) (drop l.byte-index l.bytes))
    ≡ list_all (λ byte. nat_lt byte 128) l.bytes
