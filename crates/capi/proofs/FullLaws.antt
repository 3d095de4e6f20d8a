-- The full data of a symbol is that which its symbology gives.
use Rattle.std.proofs.Common.{ℕ, List}
use Rattle.std.specs.Prelude.{Bool, true, false, Option, Some, None, Result, Ok, Err, IfOk, if◌then◌else◌}
use Rattle.labelcore.specs.OptionValues.{LabelValues}
use Rattle.labelcore.specs.declared.symbology.Symbology.{Symbology}
use Rattle.labelcore.specs.declared.symbology.Symbology.TheVariants.{Code128, Qr}
use Rattle.labelcore.specs.Settings.{◌>>=◌}
use Rattle.labelcore.specs.declared.fault.Fault.{Fault}
use Rattle.linear.specs.Code128.{code128_row}
use Rattle.linear.specs.Digits.{unless_found}
use Rattle.labelcore.specs.declared.fault.Fault.TheVariants.{DataTooLong, NotAscii}
use Rattle.filter.specs.Symbol.{Symbol, linear_symbol, qr_modules}
use Rattle.capi.specs.Full.{IsFullPut}

pub linear_full : (symbology : Symbology) (row : List ℕ → List Bool) (label : LabelValues)
    → (found : Result (List ℕ) Fault) (room room_after : List ℕ) (told : ℕ)
    → IfOk found (λ full. IsFullPut full room room_after told)
    → IfOk (linear_symbol symbology row label found) (λ symbol. IsFullPut symbol.full room room_after told)
linear_full symbology row label (Ok full) room room_after told put = put
linear_full symbology row label (Err refusal) room room_after told put = tt

pub code128_full : (is_long : Bool) (place : Option ℕ) (label : LabelValues) (bytes room room_after : List ℕ) (told : ℕ)
    → IsFullPut bytes room room_after told
    → IfOk (linear_symbol Code128 code128_row label
    (if is_long then Err DataTooLong else unless_found NotAscii place (Ok bytes)))
    (λ symbol. IsFullPut symbol.full room room_after told)
code128_full true place label bytes room room_after told put = tt
code128_full false None label bytes room room_after told put = put
code128_full false (Some at) label bytes room room_after told put = tt

pub qr_full : (label : LabelValues) (bytes : List ℕ) (found : Result ℕ Fault) (room room_after : List ℕ) (told : ℕ)
    → IsFullPut bytes room room_after told
    → IfOk {T = Symbol} (found >>= (λ version. Ok (record { symbology = Qr; full = bytes; modules = qr_modules label bytes version })))
    (λ symbol. IsFullPut symbol.full room room_after told)
qr_full label bytes (Ok version) room room_after told put = put
qr_full label bytes (Err fault) room room_after told put = tt
