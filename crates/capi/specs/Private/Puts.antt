-- What is put into a room, piece by piece.
use Rattle.std.proofs.Common.{◌≡◌, ℕ, zero, suc, ◌+◌, ◌-◌, ◌^◌, ◌<◌, ◌≤◌, List, [], ◌∷◌, ◌++◌, length, min, refl, ap, sym, ◌∙◌, arith, length-append, inl, inr}
use Rattle.std.proofs.lemmas.Bool.{cases_lt}
use Rattle.capi.specs.declared.slice_sink.SliceSink.{SliceSink}
use Rattle.capi.specs.Room.{put_text}
use Rattle.capi.specs.Slice.{Puts, room_of}

pub put_nothing : (room : List ℕ) (at : ℕ) → put_text room at [] ≡ room
put_nothing [] at = refl
put_nothing (b ∷ room) zero = refl
put_nothing (b ∷ room) (suc at) = ap (λ (r : List ℕ). b ∷ r) (put_nothing room at)

pub put_joined : (room : List ℕ) (at : ℕ) (xs ys : List ℕ) (m : ℕ) → m ≡ at + length xs
    → put_text (put_text room at xs) m ys ≡ put_text room at (xs ++ ys)
put_joined [] at xs ys m e = refl
put_joined (b ∷ room) zero [] ys m e = let none : m ≡ 0 = omega (arith, e) in rw none refl
put_joined (b ∷ room) zero (x ∷ xs) ys zero e = absurd (omega (arith, e))
put_joined (b ∷ room) zero (x ∷ xs) ys (suc m) e =
    ap (λ (r : List ℕ). x ∷ r) (put_joined room zero xs ys m (omega (arith, e)))
put_joined (b ∷ room) (suc at) xs ys zero e = absurd (omega (arith, e))
put_joined (b ∷ room) (suc at) xs ys (suc m) e =
    ap (λ (r : List ℕ). b ∷ r) (put_joined room at xs ys m (omega (arith, e)))

-- past the end nothing is put
pub put_past : (room : List ℕ) (at : ℕ) (text : List ℕ) → length room ≤ at → put_text room at text ≡ room
put_past [] at text past = refl
put_past (b ∷ room) zero text past = absurd (let e : suc (length room) ≤ 0 = past in omega arith)
put_past (b ∷ room) (suc at) text past = ap (λ (r : List ℕ). b ∷ r) (put_past room at text (omega arith))

pub put_length : (room : List ℕ) (at : ℕ) (text : List ℕ) → length (put_text room at text) ≡ length room
put_length [] at text = refl
put_length (b ∷ room) zero [] = refl
put_length (b ∷ room) zero (x ∷ text) = ap suc (put_length room zero text)
put_length (b ∷ room) (suc at) text = ap suc (put_length room at text)

-- a text whose front ends at the place m, or both past the end
put_later : (room : List ℕ) (at : ℕ) (xs ys : List ℕ) (m : ℕ) → length room < 2 ^ 64
    → m ≡ min (at + length xs) (2 ^ 64 - 1) → put_text (put_text room at xs) m ys ≡ put_text room at (xs ++ ys)
put_later room at xs ys m small e = elim (cases_lt (at + length xs) (2 ^ 64)) [
  | inl low ↦ put_joined room at xs ys m (omega (arith, e))
  | inr high ↦
      let size = put_length room at xs in
      put_past (put_text room at xs) m ys (omega (arith, e, size))
      ∙ sym (put_past (put_text room at xs) (at + length xs) ys (omega (arith, e, size)))
      ∙ put_joined room at xs ys (at + length xs) refl
]

pub Puts_none : (s : SliceSink) → Puts s s []
Puts_none s = record {
  same = refl;
  size = refl;
  count = omega (arith, s.counted);
  room = λ small. sym (put_nothing (room_of s) s.count);
}

pub Puts_joined : (s t u : SliceSink) (xs ys : List ℕ) → Puts s t xs → Puts t u ys → Puts s u (xs ++ ys)
Puts_joined s t u xs ys a b = record {
  same = b.same ∙ a.same;
  size = b.size ∙ a.size;
  count = omega (arith, a.count, b.count, length-append xs ys);
  room = λ small.
      b.room (omega (arith, small, a.size))
      ∙ (ap (λ (r : List ℕ). put_text r t.count ys) (a.room small)
      ∙ put_later (room_of s) s.count xs ys t.count (omega (arith, small)) a.count);
}
