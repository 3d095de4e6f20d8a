use Rattle.std.proofs.Common.{◌&&◌}
use Rattle.std.specs.Prelude.{nat_lt}
use Rattle.qrmatrix.specs.Private.Drawing.{unmasked_module}
use Rattle.qrmatrix.specs.Functions.{is_free, role}
use Rattle.qrmatrix.proofs.PassLaws.{TurnedTo}
use Rattle.qrmatrix.proofs.unmasked.draw_functions.Given as goal

abbrev pub invariant-loop-y : goal.invariant-loop-y
invariant-loop-y l = record {
  free : TurnedTo l.y (λ x y. nat_lt x l.side && is_free l.version x y) l.fn.free l.free;
  modules : TurnedTo l.y (λ x y. nat_lt x l.side && unmasked_module l.version (role l.version x y)) l.fn.modules l.modules;
}
