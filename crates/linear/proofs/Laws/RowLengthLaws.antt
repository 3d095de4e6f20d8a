-- How many modules a row has (ISO/IEC 15420 and 15417, symbol formats and symbol structure).
use Rattle.std.proofs.Common.{ℕ, ◌≢◌, ◌≤◌, Bool, List, [], arith, length}
use Rattle.std.specs.Prelude.{IfOk}
use Rattle.linear.specs.Code128.{full_code128, code128_row}
use Rattle.linear.specs.Digits.{full_digits}
use Rattle.linear.specs.Ean.{ean8_row, ean13_row, upca_row}
use Rattle.linear.proofs.Laws.Code128Laws.{of_full_code128, code128_is_short, code128_reads}
use Rattle.linear.proofs.Laws.DigitLaws.{of_full_digits}
use Rattle.linear.proofs.Laws.EanLaws.{ean8_reads, ean13_reads, upca_reads}
use Rattle.linear.proofs.Laws.ReadLengthLaws.{code128_long, ean8_long, ean13_long, upca_long}

-- a row has as many modules as a row may have
pub record HasLength (row : List Bool) : Type 0 where
  pub long : 46 ≤ length row
  pub short : length row ≤ 1795

-- the row of full data has
pub ean8_length : (bytes : List ℕ) → IfOk (full_digits 7 bytes) (λ full. HasLength (ean8_row full))
ean8_length bytes = of_full_digits 7 bytes _ (λ full f.
    let reads = ean8_reads full f in
    record { long = omega (arith, ean8_long (ean8_row full) full reads.read); short = reads.short })

pub ean13_length : (bytes : List ℕ) → IfOk (full_digits 12 bytes) (λ full. HasLength (ean13_row full))
ean13_length bytes = of_full_digits 12 bytes _ (λ full f.
    let reads = ean13_reads full f in
    record { long = omega (arith, ean13_long (ean13_row full) full reads.read); short = reads.short })

pub upca_length : (bytes : List ℕ) → IfOk (full_digits 11 bytes) (λ full. HasLength (upca_row full))
upca_length bytes = of_full_digits 11 bytes _ (λ full f.
    let reads = upca_reads full f in
    record { long = omega (arith, upca_long (upca_row full) full reads.read); short = reads.short })

pub code128_length : (bytes : List ℕ) → bytes ≢ [] → IfOk (full_code128 bytes) (λ full. HasLength (code128_row full))
code128_length bytes some = of_full_code128 bytes _ (λ valid.
    record {
      long = code128_long (code128_row bytes) bytes (code128_reads bytes valid).read some;
      short = code128_is_short bytes valid;
    })
