-- The modules of a symbol with the rows that are put, and those with all.
use Rattle.std.proofs.Common.{◌≡◌, ℕ, List, refl, sym, ap, subst, length}
use Rattle.std.specs.Prelude.{◌≢◌, Bool, Result, Ok, Err, MatchResult, IfOk}
use Rattle.labelcore.specs.LineItem.{outcome_of}
use Rattle.labelcore.specs.OptionValues.{LabelValues}
use Rattle.labelcore.specs.Settings.{◌>>=◌}
use Rattle.labelcore.specs.declared.fault.Fault.{Fault}
use Rattle.labelcore.specs.declared.symbology.Symbology.{Symbology}
use Rattle.labelcore.specs.declared.symbology.Symbology.TheVariants.{Ean13, Ean8, UpcA, Code128, Qr}
use Rattle.linear.specs.Digits.{full_digits}
use Rattle.linear.specs.Ean.{ean13_row, ean8_row, upca_row}
use Rattle.linear.specs.Code128.{full_code128, code128_row}
use Rattle.filter.specs.Symbol.{Symbol, linear_symbol, qr_modules, symbol_of}
use Rattle.filter.specs.ModuleReading.{IsReadInModules}
use Rattle.filter.specs.Private.{HasModules}
use Rattle.picture.specs.Picture.{Picture, bars}
use Rattle.capi.specs.Private.Asking.{one_row}
use Rattle.capi.specs.Full.{IsFullPut, PutsFullOutcome}
use Rattle.capi.specs.Modules.{AnswersModulesOutcome, HasNumbers, IsDrawnAs, IsSizeOf, ModuleRooms, PutsModules}
use Rattle.capi.specs.Modules.{ReadsModulesOutcome, rows_put, with_rows_put}
use Rattle.capi.specs.declared.numbers.Answer.{Answer}
use Rattle.capi.specs.declared.numbers.SymbolInfo.{SymbolInfo}

-- a symbol found with all its rows, and the same with the rows that are put
abbrev pub IsLowered : Result Symbol Fault → Result Symbol Fault → Type 0
IsLowered low found = MatchResult found (λ symbol. low ≡ Ok (with_rows_put symbol)) (λ fault. low ≡ Err fault)

linear_lowered : (symbology : Symbology) (row : List ℕ → List Bool) (label : LabelValues)
    → rows_put symbology label.height ≡ 1 → (found : Result (List ℕ) Fault)
    → IsLowered (linear_symbol symbology row (one_row label) found) (linear_symbol symbology row label found)
linear_lowered symbology row label one (Ok full) = rw one refl
linear_lowered symbology row label one (Err refusal) = refl

qr_lowered : (label : LabelValues) (bytes : List ℕ) (found : Result ℕ Fault)
    → IsLowered
    (found >>= (λ version. Ok (record { symbology = Qr; full = bytes; modules = qr_modules (one_row label) bytes version })))
    (found >>= (λ version. Ok (record { symbology = Qr; full = bytes; modules = qr_modules label bytes version })))
unfolding qr_modules
qr_lowered label bytes (Ok version) = refl
qr_lowered label bytes (Err fault) = refl

-- the symbol of data, and that of the options with one row
pub lowered : (label : LabelValues) (symbology : Symbology) (bytes : List ℕ)
    → IsLowered (symbol_of (one_row label) symbology bytes) (symbol_of label symbology bytes)
unfolding symbol_of
lowered label Ean13 bytes = linear_lowered Ean13 ean13_row label refl (full_digits 12 bytes)
lowered label Ean8 bytes = linear_lowered Ean8 ean8_row label refl (full_digits 7 bytes)
lowered label UpcA bytes = linear_lowered UpcA upca_row label refl (full_digits 11 bytes)
lowered label Code128 bytes = linear_lowered Code128 code128_row label refl (full_code128 bytes)
lowered label Qr bytes = qr_lowered label bytes _

-- the row that is put of a linear symbol is one
one_row_put : (symbology : Symbology) (height : ℕ) → symbology ≢ Qr → rows_put symbology height ≡ 1
one_row_put Ean13 height linear = refl
one_row_put Ean8 height linear = refl
one_row_put UpcA height linear = refl
one_row_put Code128 height linear = refl
one_row_put Qr height linear = absurd (linear refl)

-- a linear symbol has no numbers of a QR symbol
pub no_numbers : (label : LabelValues) (symbology : Symbology) (bytes : List ℕ) (info : SymbolInfo) → symbology ≢ Qr
    → (info.version ≡ 0) × ((info.level ≡ 0) × (info.mask ≡ 0)) → HasNumbers label symbology bytes info
no_numbers label Ean13 bytes info linear zeros = zeros
no_numbers label Ean8 bytes info linear zeros = zeros
no_numbers label UpcA bytes info linear zeros = zeros
no_numbers label Code128 bytes info linear zeros = zeros
no_numbers label Qr bytes info linear zeros = absurd (linear refl)

-- what is told of each symbol is told of one that is found
pub of_each : {P : Symbol → Type 0} → ((symbol : Symbol) → P symbol) → (found : Result Symbol Fault) → IfOk found P
of_each each (Ok symbol) = each symbol
of_each each (Err fault) = tt

-- the row that is put is that of a symbol that has it
pub row_answers : (rooms : ModuleRooms) (answer : Answer) (info : SymbolInfo) (found : Result Symbol Fault)
    (symbology : Symbology) (row : List Bool) (height : ℕ) → symbology ≢ Qr → HasModules found symbology (bars row height)
    → PutsModules rooms answer (bars row 1)
    → ((symbol : Symbol) → symbol.symbology ≡ symbology → symbol.modules.width ≡ length row
    → symbol.modules.height ≡ 1 → IsSizeOf symbol info)
    → ((symbol : Symbol) → symbol.symbology ≡ symbology → symbol.modules.height ≡ height → IsDrawnAs symbol info)
    → AnswersModulesOutcome rooms answer info (outcome_of found)
row_answers rooms answer info (Err fault) symbology row height linear has puts size drawn_as = absurd has
row_answers rooms answer info (Ok symbol) symbology row height linear has puts size drawn_as =
    let one = one_row_put symbology height linear in
    let modules : (with_rows_put symbol).modules ≡ bars row 1 = rw (has.0, has.1, one) refl in
    let put = subst (PutsModules rooms answer) (sym modules) puts in (
      put,
      (
        size (with_rows_put symbol) has.0 (ap (λ (p : Picture). p.width) modules) (ap (λ (p : Picture). p.height) modules),
        drawn_as symbol has.0 (ap (λ (p : Picture). p.height) has.1),
      ),
    )

-- the full data that is put is that of a symbol that has the modules
pub row_full : (found : Result Symbol Fault) (symbology : Symbology) (p : Picture) (room room_after : List ℕ) (told : ℕ)
    → HasModules found symbology p → IfOk found (λ symbol. IsFullPut symbol.full room room_after told)
    → PutsFullOutcome room room_after told (outcome_of found)
row_full (Ok symbol) symbology p room room_after told has put = put
row_full (Err fault) symbology p room room_after told has put = absurd has

-- the symbol that is put reads, and so does that with all its rows
pub reads_lowered : (low found : Result Symbol Fault) → IsLowered low found
    → IfOk low IsReadInModules → ReadsModulesOutcome (outcome_of found)
reads_lowered low (Err fault) is read = tt
reads_lowered low (Ok symbol) is read = rw is at read
