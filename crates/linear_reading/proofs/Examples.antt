-- Worked values of reading (ISO/IEC 15417, symbol structure).
use Rattle.std.specs.Prelude.{◌≡◌, refl, false, Some, None, [], ◌∷◌, length, map, replicate}
use Rattle.linear_reading.specs.Reading.{read_row}

-- eleven modules for each of one or 160 values, the start value and the check value, and thirteen for the stop character: a
-- row of as many is read, and no shorter or longer one
rows_in_limits : map (λ modules. read_row (λ row. Some (length row ∷ [])) (replicate modules false))
    (45 ∷ 46 ∷ 1795 ∷ 1796 ∷ []) ≡ None ∷ Some (46 ∷ []) ∷ Some (1795 ∷ []) ∷ None ∷ []
rows_in_limits = refl
