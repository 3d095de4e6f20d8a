-- What `encode` ensures of a row, from the laws of its reading.
use Rattle.std.proofs.Common.{◌≡◌, ℕ, ◌++◌, Bool, List, [], Ok, Option, Some, Result, ap, ◌∙◌, arith}
use Rattle.std.specs.Prelude.{IfOk}
use Rattle.labelcore.specs.declared.fault.Fault.{Fault}
use Rattle.linear.specs.Drawing.{IsDrawn}
use Rattle.linear.specs.Private.Lists.{Appends}
use Rattle.linear.specs.Scanning.{HasNoGap}
use Rattle.linear.proofs.Laws.DamageLaws.{AreFarApart, IsGuarded-apart}
use Rattle.linear.proofs.Laws.EanLaws.{ReadsBack}
use Rattle.linear.proofs.Laws.OneReadingLaws.{has_one_reading}

-- a row that was empty, and to which that of the full data is appended
-- each `encode`, of four symbologies, has its own answer, row and reading, and a fact by each of its calls
pub IsDrawn-from_Ok : {R : Type 0} (answer : Result (List ℕ) Fault) (row_of : List ℕ → List Bool)
    (reading : List Bool → Option (List ℕ)) (limit : ℕ) → AreFarApart limit reading
    → ((row : List Bool) (full : List ℕ) → reading row ≡ Some full → HasNoGap row) → (full : List ℕ)
    {old row : List Bool} {n : ℕ} → answer ≡ Ok full → old ≡ [] → Appends old row (row_of full) n
    → ReadsBack reading (row_of full) full → R → IfOk answer (λ xs. R × IsDrawn row_of reading limit xs row)
IsDrawn-from_Ok answer row_of reading limit apart no_gap full e empty drawn back done =
    rw e (
      done,
      record {
        drawn = drawn.items ∙ ap (λ xs. xs ++ row_of full) empty;
        fits = omega (arith, back.short);
        read = back.read;
        guarded = IsGuarded-apart limit reading apart (row_of full) full back.read;
        alone = has_one_reading (row_of full);
        whole = no_gap (row_of full) full back.read;
      },
    )
