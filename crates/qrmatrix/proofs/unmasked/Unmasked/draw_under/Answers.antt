use Rattle.std.proofs.Common.{◌∙◌, sym, subst, inl, inr, refl}
use Rattle.std.proofs.lemmas.Bool.{cases_lt, and_left, and_right, le-ltb, lt-ltb}
use Rattle.std.specs.Prelude.{nat_lt}
use Rattle.qrdata.specs.Versions.{side_of}
use Rattle.qrmatrix.specs.Private.Drawing.{IsMaskedTo}
use Rattle.qrmatrix.proofs.UnderMaskLaws.{under}
use Rattle.qrmatrix.proofs.Laws.ReadingLaws.{inside_from, module_inside, module_outside}
use Rattle.qrmatrix.proofs.unmasked.Unmasked.draw_under.Goals as goal

pub returns-clause-modules : goal.returns-clause-modules
returns-clause-modules c =
    λ codewords u within x y.
    let self = c.args.self.now in
    let v = self.version in
    let n = side_of v in
    let mask = c.args.mask in
    let drawn = c.draw_format.ensures in
    let masked : IsMaskedTo n mask self.free self.modules c.args.masked.now.modules c.write_masked.new.masked =
    subst (λ k. IsMaskedTo k mask self.free self.modules c.args.masked.now.modules c.write_masked.new.masked)
    c.side-side.ensures.value c.write_masked.ensures in
    elim (cases_lt y n) [
      | inr gy ↦
          let out = and_right (nat_lt x n) (nat_lt y n) (le-ltb y n gy) in
          drawn.outside.rows x y gy ∙ masked x y ∙ rw (le-ltb y n gy) (within x y out)
          ∙ sym (module_outside v self.level mask codewords x y out)
      | inl ly ↦ elim (cases_lt x n) [
        | inr gx ↦
            drawn.outside.columns x y gx ∙ masked x y
            ∙ rw (lt-ltb y n ly, u.marked.outside x y gx) (u.columns x y gx)
            ∙ sym (module_outside v self.level mask codewords x y
            (and_left (nat_lt x n) (nat_lt y n) (le-ltb x n gx)))
        | inl lx ↦
            under u drawn x y lx ly (masked x y ∙ rw (lt-ltb y n ly) refl)
            ∙ sym (module_inside v self.level mask codewords x y (inside_from n x y lx ly))
      ]
    ]

pub returns-clause-within : goal.returns-clause-within
returns-clause-within c =
    λ codewords u within x y out.
    let self = c.args.self.now in
    returns-clause-modules c codewords u within x y
    ∙ module_outside self.version self.level c.args.mask codewords x y out
