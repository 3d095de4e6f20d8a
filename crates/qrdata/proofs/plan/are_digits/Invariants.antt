use Rattle.std.proofs.Common.{◌≡◌, ◌&&◌, drop}
use Rattle.std.specs.Char.{is_ascii_digit}
use Rattle.std.specs.List.{list_all}
use Rattle.qrdata.proofs.plan.are_digits.Given as goal

-- whether the bytes so far are digits, and those to come, is whether all are
abbrev pub invariant-loop-byte : goal.invariant-loop-byte
invariant-loop-byte l =
    (l.all && list_all is_ascii_digit (drop l.byte-index l.bytes)) ≡ list_all is_ascii_digit l.bytes
