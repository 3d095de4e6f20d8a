-- Bytes put into a caller's room.
use Rattle.std.specs.Prelude.{ℕ, zero, suc, List, [], ◌∷◌}

-- the room after a text was put at a place: as much of the text as there is room for, and the rest of the room as it was
abbrev pub put_text : List ℕ → ℕ → List ℕ → List ℕ
put_text [] at text = []
put_text (b ∷ room) zero [] = b ∷ room
put_text (b ∷ room) zero (x ∷ text) = x ∷ put_text room zero text
put_text (b ∷ room) (suc at) text = b ∷ put_text room at text
