-- A row of dots in a longer room that is light behind it.
use Rattle.std.proofs.Common.{◌≡◌, ◌≤◌, ◌+◌, ◌*◌, ℕ, zero, suc, List, [], ◌∷◌, ◌++◌, length, drop, append-nil, arith, ap, refl, ◌∙◌, inl, inr}
use Rattle.std.proofs.Math.ListN.{get_or, replicate}
use Rattle.std.proofs.Math.Path.{fun_ext}
use Rattle.std.proofs.lemmas.Bool.{cases_lt}
use Rattle.std.proofs.lemmas.List.{get_or-replicate, get_or_past, length-replicate}
use Rattle.std.specs.Prelude.{Bool, false, map}
use Rattle.picture.specs.Text.{below}
use Rattle.capi.specs.Bitmap.{bytes_of}
use Rattle.capi.specs.Private.BitRows.{byte_of_dots}

-- no dot is dark where all are light
pub all_light : (n x : ℕ) → get_or (replicate n false) x false ≡ false
all_light n x = elim (cases_lt x n) [
  | inl low ↦ get_or-replicate n x false false low
  | inr high ↦ get_or_past (replicate n false) x false (omega (arith, high, length-replicate {A = Bool} n))
]

-- what a room has where a row was put at its front
pub with_row : (row room : List Bool) → ((x : ℕ) → length row ≤ x → get_or room x false ≡ false) → (x : ℕ)
    → get_or (row ++ drop (length row) room) x false ≡ get_or row x false
with_row [] room light x = light x (omega arith)
with_row (dot ∷ row) [] light x = ap (λ (r : List Bool). get_or r x false) (append-nil (dot ∷ row))
with_row (dot ∷ row) (other ∷ room) light zero = refl
with_row (dot ∷ row) (other ∷ room) light (suc x) =
    with_row row room (λ k h. light (suc k) (omega (arith, h))) x

-- behind the row it stays light
pub light_behind : (row room : List Bool) → ((x : ℕ) → length row ≤ x → get_or room x false ≡ false) → (x : ℕ)
    → length row ≤ x → get_or (row ++ drop (length row) room) x false ≡ false
light_behind row room light x behind = with_row row room light x ∙ get_or_past row x false behind

bytes_by : (ℕ → Bool) → ℕ → List ℕ
bytes_by dot count = map (λ j. byte_of_dots (dot (8 * j)) (dot (8 * j + 1)) (dot (8 * j + 2)) (dot (8 * j + 3))
    (dot (8 * j + 4)) (dot (8 * j + 5)) (dot (8 * j + 6)) (dot (8 * j + 7))) (below count)

-- the bytes of a row are those of such a room
pub bytes_of_room : (row room : List Bool) → ((x : ℕ) → length row ≤ x → get_or room x false ≡ false) → (count : ℕ)
    → bytes_of (row ++ drop (length row) room) count ≡ bytes_of row count
unfolding bytes_by
bytes_of_room row room light count =
    ap (λ (dot : ℕ → Bool). bytes_by dot count) (fun_ext (with_row row room light))
