use Rattle.std.proofs.Common.{length}
use Rattle.std.specs.Prelude.{nat_lt, nat_le, position}
use Rattle.labelcore.specs.declared.symbology.Symbology.TheVariants.{Ean13, Ean8, UpcA}
use Rattle.linear.specs.Digits.{full_digits}
use Rattle.linear.specs.Ean.{ean13_row, ean8_row, upca_row}
use Rattle.filter.specs.Symbol.{symbol_of}
use Rattle.capi.proofs.FullLaws.{linear_full, code128_full, qr_full}
use Rattle.capi.proofs.full.put_full.Goals as goal

pub returns-in-Ean13 : goal.returns-in-Ean13
unfolding symbol_of
returns-in-Ean13 c = λ label. rw c.in-Ean13.is
    (linear_full Ean13 ean13_row label (full_digits 12 c.args.bytes.now) _ _ _ c.put_digits.ensures)

pub returns-in-Ean8 : goal.returns-in-Ean8
unfolding symbol_of
returns-in-Ean8 c = λ label. rw c.in-Ean8.is
    (linear_full Ean8 ean8_row label (full_digits 7 c.args.bytes.now) _ _ _ c.put_digits-in-Ean8.ensures)

pub returns-in-UpcA : goal.returns-in-UpcA
unfolding symbol_of
returns-in-UpcA c = λ label. rw c.in-UpcA.is
    (linear_full UpcA upca_row label (full_digits 11 c.args.bytes.now) _ _ _ c.put_digits-in-UpcA.ensures)

pub returns-in-Code128 : goal.returns-in-Code128
unfolding symbol_of
returns-in-Code128 c = λ label. rw c.in-Code128.is
    (code128_full (nat_lt 80 (length c.args.bytes.now)) (position (λ byte. nat_le 128 byte) c.args.bytes.now) label
    c.args.bytes.now _ _ _ c.put_whole.ensures)

pub returns-in-Qr : goal.returns-in-Qr
unfolding symbol_of
returns-in-Qr c = λ label. rw c.in-Qr.is (qr_full label c.args.bytes.now _ _ _ _ c.put_whole-in-Qr.ensures)
