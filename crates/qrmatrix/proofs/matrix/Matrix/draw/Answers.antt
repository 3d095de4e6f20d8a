use Rattle.std.proofs.Common.{◌≡◌, ℕ, Some, arith, refl, subst, ◌∙◌, ◌<◌, false}
use mathlib.Core.Path.{fun_ext}
use Rattle.std.specs.Prelude.{All}
use Rattle.qrmatrix.specs.MaskChoice.{chosen_mask}
use Rattle.qrmatrix.specs.Modules.{is_inside, module_at}
use Rattle.qrmatrix.specs.Reading.{Reading, read_matrix}
use Rattle.qrmatrix.specs.Square.{value_at}
use Rattle.qrmatrix.proofs.Laws.MaskChoiceLaws.{chosen_mask-lt, mask_below}
use Rattle.qrmatrix.proofs.Laws.DamageLaws.{IsGuarded-read}
use Rattle.qrmatrix.proofs.Laws.TurnLaws.{IsUpright-read}
use Rattle.qrmatrix.proofs.Laws.ReadingLaws.{module_outside, reads_back}
use Rattle.qrmatrix.proofs.matrix.Matrix.draw.Goals as goal
use Rattle.qrmatrix.proofs.matrix.Matrix.draw.Goals.{in-Some, in-None}

-- the modules that are drawn
shown : (c : goal.After-side) (x y : ℕ) → value_at c.match-mask.masked.modules x y
    ≡ module_at c.args.version c.args.level c.match-mask.masked.mask c.args.words.now.items x y
shown c =
    let drawn = c.draw.ensures in
    elim c.match-mask.branch [
      | in-Some w ↦
          rw (w.masked-is, ← drawn.same_version, ← drawn.same_level)
          (w.draw_under.ensures.modules c.args.words.now.items drawn.placed (λ x y out. c.blank-masked.ensures x y))
      | in-None w ↦
          rw (w.masked-is, ← drawn.same_version, ← drawn.same_level)
          (w.draw_under_best_mask.ensures.modules c.args.words.now.items drawn.placed)
    ]

mask_is : (c : goal.After-side) → c.match-mask.masked.mask
    ≡ chosen_mask c.args.version c.args.level c.args.mask c.args.words.now.items
unfolding chosen_mask
mask_is c =
    let drawn = c.draw.ensures in
    elim c.match-mask.branch [
      | in-Some w ↦ rw (w.masked-is, w.draw_under.ensures.mask, w.of.ensures, w.in-Some.is) refl
      | in-None w ↦
          rw (w.masked-is, w.in-None.is, ← drawn.same_version, ← drawn.same_level)
          (w.draw_under_best_mask.ensures.mask c.args.words.now.items drawn.placed)
    ]

below : (c : goal.After-side) → c.match-mask.masked.mask < 8
below c =
    rw (mask_is c)
    (chosen_mask-lt c.args.version c.args.level c.args.mask c.args.words.now.items
    (mask_below c.args.mask c.requires.mask))

pub returns : goal.returns
returns c =
    let v = c.args.version in
    let codewords = c.args.words.now.items in
    let mask = c.match-mask.masked.mask in
    let bytes : All (λ w. w < 256) codewords = rw c.deref.ensures.0 at c.are_bytes.ensures in
    let same : value_at c.match-mask.masked.modules ≡ module_at v c.args.level mask codewords =
    fun_ext (λ x. fun_ext (λ y. shown c x y)) in
    let symbol : Reading = record { version = v; level = c.args.level; codewords = codewords } in
    let dark = value_at c.match-mask.masked.modules in
    let reads : read_matrix c.side.result dark ≡ Some symbol =
    rw (same, c.side.ensures.value) (reads_back v c.args.level mask codewords c.side.ensures.known.0
    c.side.ensures.known.1 (below c) c.requires.words bytes) in
    record {
      side = c.side.ensures.value;
      mask = mask_is c;
      modules = shown c;
      reads = reads;
      guarded = IsGuarded-read c.side.result dark symbol reads;
      upright = IsUpright-read c.side.result dark symbol reads;
    }

pub invariant_of-result : goal.invariant_of-result
invariant_of-result c =
    record {
      least = let a = c.side.ensures.known.0 in omega arith;
      most = let a = c.side.ensures.known.1 in omega arith;
      within = λ x y out.
          shown c x y
          ∙ module_outside c.args.version c.args.level c.match-mask.masked.mask c.args.words.now.items x y
          (subst (λ n. is_inside n x y ≡ false) c.side.ensures.value out);
    }
