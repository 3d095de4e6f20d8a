use Rattle.std.proofs.Common.{◌∙◌, ℕ, Bool, sym, length, slice_index, refl, true, false}
use Rattle.qrmatrix.specs.Bits.{bit}
use Rattle.qr_reading.proofs.Laws.SymbolReadingLaws.{read_if_shown}
use Rattle.qr_reading.proofs.module_reading.read.Goals as goal

pub returns-then-not-are_shown : goal.returns-then-not-are_shown
returns-then-not-are_shown c =
    let m : ℕ → ℕ → Bool = λ x y. bit (slice_index c.args.rows.now y) x in
    rw (read_if_shown (length c.args.rows.now) m c.in_ok-version.version
    (sym c.version_of_side.ensures.found ∙ c.in_ok-version.was) _ _ _ false c.format_in-level.ensures
    c.draw_patterns.ensures (sym c.if-not-are_shown.true ∙ c.are_shown.ensures)) refl

pub returns : goal.returns
returns c =
    let m : ℕ → ℕ → Bool = λ x y. bit (slice_index c.args.rows.now y) x in
    let codewords = c.deref.ensures.0 ∙ c.read_codewords.ensures in
    rw (
      c.read_data.ensures,
      codewords,
      read_if_shown (length c.args.rows.now) m c.in_ok-version.version
          (sym c.version_of_side.ensures.found ∙ c.in_ok-version.was) _ _ _ true c.format_in-level.ensures
          c.draw_patterns.ensures (sym c.if-not-are_shown.false ∙ c.are_shown.ensures),
    ) refl
