use Rattle.std.proofs.Common.{◌≤◌, ◌<◌, ◌*◌, ℕ, List}
use Rattle.qrdata.specs.Versions.{side_of}
use Rattle.qrmatrix.specs.Private.Drawing.{Places, ShowsSymbol}
use Rattle.qrmatrix.specs.Private.Squares.{IsWithin}
use Rattle.qrmatrix.specs.Modules.{module_at}
use Rattle.qrmatrix.specs.Penalty.{penalty}
use Rattle.qrmatrix.specs.declared.square.TheConstants.{SIDE}
use Rattle.qrmatrix.specs.Private.MaskOrder.{turn_of}
use Rattle.qrmatrix.proofs.Laws.MaskChoiceLaws.{Found}
use Rattle.qrmatrix.proofs.unmasked.Unmasked.draw_under_best_mask.Given as goal

abbrev pub invariant-loop-turn : goal.invariant-loop-turn
invariant-loop-turn l = record {
  found : (codewords : List ℕ) → Places l.self codewords
      → Found (λ k. penalty (side_of l.self.version) (module_at l.self.version l.self.level k codewords))
      (λ j. turn_of j < l.turn) l.best.mask l.lowest;
  shown : (codewords : List ℕ) → Places l.self codewords → ShowsSymbol l.self codewords l.best;
  drawn : (codewords : List ℕ) → Places l.self codewords → IsWithin (side_of l.self.version) l.next.modules;
  bound : l.lowest ≤ 329 * SIDE * SIDE;
}
