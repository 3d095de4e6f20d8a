use Rattle.std.proofs.Common.{◌≡◌, ◌-◌, ◌<◌, ℕ, List, ◌∷◌, length, get_or, take, drop, drop-cons, refl, sym, subst}
use Rattle.std.proofs.Common.{arith, length-drop}
use Rattle.std.specs.Char.{IsAsciiDigit}
use Rattle.std.proofs.lemmas.List.{take_rest}
use Rattle.std.proofs.lemmas.List.Elements.{All-drop}
use Rattle.linear.specs.Private.Data.{AreDigits}
use Rattle.linear.specs.Private.Lists.{Appends}
use Rattle.linear.specs.Ean.{ean13_row}
use Rattle.linear.specs.EanReading.{read_ean13}
use Rattle.linear.proofs.Laws.DamageLaws.{ean13_rows_far_apart}
use Rattle.linear.proofs.EncodingLaws.{IsDrawn-from_Ok}
use Rattle.linear.proofs.Laws.GapLaws.{ean13_gap}
use Rattle.linear.proofs.Laws.EanLaws.{ean13_reads}
use Rattle.linear.proofs.ean.Ean13Linear.encode.Goals as goal

-- the first digit and the others, as the code cuts them
first_and_rest : (full one two : List ℕ) → one ≡ full → two ≡ full → 0 < length full
    → get_or one 0 0 ∷ take (length two - 1) (drop 1 two) ≡ full
first_and_rest full one two e f some = rw (e, f, take_rest full 1) (sym (drop-cons full 0 0 some))

-- the others are digits
rest_digits : (full two : List ℕ) → two ≡ full → AreDigits 13 full → AreDigits 12 (take (length two - 1) (drop 1 two))
rest_digits full two e d = rw (e, take_rest full 1) (record {
  long = omega (arith, length-drop 1 full, d.long);
  digits = All-drop IsAsciiDigit 1 full d.digits;
})

pub push_ean13-requires-clause-rest : goal.push_ean13-requires-clause-rest
push_ean13-requires-clause-rest c = rest_digits _ _ c.deref-2.ensures.0 c.in_ok-full.ensures.full.digits

pub returns-clause-drawn : goal.returns-clause-drawn
returns-clause-drawn c =
    let full = c.in_ok-full.full.items in
    let whole = first_and_rest full _ _ c.deref.ensures.0 c.deref-2.ensures.0
    (omega (arith, c.in_ok-full.ensures.full.digits.long)) in
    IsDrawn-from_Ok _ ean13_row read_ean13 1 ean13_rows_far_apart ean13_gap full c.in_ok-full.ensures.answer
    c.clear.ensures
    (subst (λ xs. Appends c.clear.new.self.items c.push_ean13.new.row.items (ean13_row xs) 95) whole c.push_ean13.ensures)
    (ean13_reads full c.in_ok-full.ensures.full) refl
