use Rattle.std.proofs.Common.{◌≡◌, ◌≢◌, ℕ, false, [], arith}
use Rattle.std.proofs.lemmas.Bool.Decides.{nat_tests}
use Rattle.std.specs.Prelude.{◌==◌}
use Rattle.capi.specs.Read.{read_asked}
use Rattle.capi.proofs.read.read_into.Goals as goal

not_zero : (scale : ℕ) → scale ≢ 0 → (scale == 0) ≡ false
not_zero scale some = grind (arith, nat_tests)

pub returns-then-scale-eq0 : goal.returns-then-scale-eq0
unfolding read_asked
returns-then-scale-eq0 c = rw c.if-scale-eq0.true (c.declined.ensures c.args.out.now [])

pub returns-in_default : goal.returns-in_default
unfolding read_asked
returns-in_default c = rw (not_zero c.args.scale c.if-scale-eq0.false, ← c.in_default.ensures)
    (c.declined-in_default.ensures c.args.out.now [])

pub returns-in-None : goal.returns-in-None
unfolding read_asked
returns-in-None c = rw (not_zero c.args.scale c.if-scale-eq0.false, ← c.in-Some.ensures, ← c.in-None.ensures)
    (c.declined-in-None.ensures c.args.out.now [])
