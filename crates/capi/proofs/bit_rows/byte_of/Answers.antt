use Rattle.std.proofs.Common.{get_or, ◌+◌, ℕ}
use Rattle.std.specs.Prelude.{Bool, false}
use Rattle.std.proofs.lemmas.Bool.{eqb-true}
use Rattle.capi.proofs.Gather.{gathers}
use Rattle.capi.proofs.bit_rows.byte_of.Goals as goal

pub returns : goal.returns
returns c =
    let dot : ℕ → Bool = λ n. get_or c.args.dots.now (c.args.x + n) false in
    rw (
      c.from.ensures,
      c.from-2.ensures,
      c.from-3.ensures,
      c.from-4.ensures,
      c.from-5.ensures,
      c.from-6.ensures,
      c.from-7.ensures,
      c.from-8.ensures,
    ) (eqb-true _ _ (gathers (get_or c.args.dots.now c.args.x false) (dot 1) (dot 2) (dot 3) (dot 4) (dot 5) (dot 6) (dot 7)))
