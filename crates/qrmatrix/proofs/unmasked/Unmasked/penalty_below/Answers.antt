use Rattle.std.proofs.Common.{◌≡◌}
use mathlib.Core.Path.{fun_ext}
use Rattle.qrmatrix.specs.Modules.{module_at}
use Rattle.qrmatrix.specs.Square.{value_at}
use Rattle.qrmatrix.proofs.unmasked.Unmasked.penalty_below.Goals as goal

pub returns-clause-value : goal.returns-clause-value
returns-clause-value c =
    λ codewords shows.
    let self = c.args.self.now in
    let masked = c.args.masked.now in
    let same : value_at masked.modules ≡ module_at self.version self.level masked.mask codewords =
    fun_ext (λ x. fun_ext (λ y. shows x y)) in
    rw (← same, ← c.side.ensures.value) c.penalty_below.ensures.value
