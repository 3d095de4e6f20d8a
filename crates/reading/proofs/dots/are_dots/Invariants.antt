use Rattle.std.proofs.Common.{◌≡◌, ◌==◌, ◌||◌, take}
use Rattle.std.specs.List.{list_all}
use Rattle.reading.proofs.dots.are_dots.Given as goal

-- whether the bytes so far are
abbrev pub invariant-loop-i : goal.invariant-loop-i
invariant-loop-i l = l.are ≡ list_all (λ b. b == l.light || b == l.dark) (take l.i l.bytes)
