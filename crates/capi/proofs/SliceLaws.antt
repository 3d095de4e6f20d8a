-- What a copy into a room puts there.
use Rattle.std.proofs.Common.{◌≡◌, ℕ, zero, suc, ◌+◌, ◌-◌, ◌≤◌, List, [], ◌∷◌, ◌++◌, length, take, drop, min, slice_range, refl, ap, arith, length-append, length-drop}
use Rattle.std.proofs.Math.Seq.{drop-nil}
use borrow.Rule.Slice.PartMut.{put_mid}
use Rattle.capi.specs.Room.{put_text}

put_front : (room text : List ℕ) (n : ℕ) → n ≡ min (length text) (length room)
    → take n text ++ drop n room ≡ put_text room 0 text
put_front [] text n e = let none : n ≡ 0 = omega (arith, e) in rw none refl
put_front (b ∷ room) [] n e = let none : n ≡ 0 = omega (arith, e) in rw none refl
put_front (b ∷ room) (x ∷ text) zero e = absurd (omega (arith, e))
put_front (b ∷ room) (x ∷ text) (suc n) e =
    ap (λ (r : List ℕ). x ∷ r) (put_front room text n (omega (arith, e)))

-- as much of a text as there is room for, copied to its place
pub put_fits : (room : List ℕ) (at : ℕ) (text : List ℕ) (n : ℕ) → at ≤ length room
    → n ≡ min (length text) (length room - at) → put_mid at n room (take n text) ≡ put_text room at text
put_fits room zero text n low e = put_front room text n (omega (arith, e))
put_fits [] (suc at) text n low e = absurd (omega (arith, low))
put_fits (b ∷ room) (suc at) text n low e =
    ap (λ (r : List ℕ). b ∷ r) (put_fits room at text n (omega (arith, low)) (omega (arith, e)))

drop_put : (room : List ℕ) (at : ℕ) (front last : List ℕ) (m : ℕ) → m ≡ at + length front
    → drop m (put_text room at (front ++ last)) ≡ put_text (drop m room) 0 last
drop_put [] at front last m e = rw drop-nil refl
drop_put (b ∷ room) zero [] last m e = let none : m ≡ 0 = omega (arith, e) in rw none refl
drop_put (b ∷ room) zero (x ∷ front) last zero e = absurd (omega (arith, e))
drop_put (b ∷ room) zero (x ∷ front) last (suc m) e = drop_put room zero front last m (omega (arith, e))
drop_put (b ∷ room) (suc at) front last zero e = absurd (omega (arith, e))
drop_put (b ∷ room) (suc at) front last (suc m) e = drop_put room at front last m (omega (arith, e))

take_put : (room text : List ℕ) → length text ≤ length room → take (length text) (put_text room 0 text) ≡ text
take_put [] [] fits = refl
take_put [] (x ∷ text) fits = absurd (omega (arith, fits))
take_put (b ∷ room) [] fits = refl
take_put (b ∷ room) (x ∷ text) fits = ap (λ (r : List ℕ). x ∷ r) (take_put room text (omega (arith, fits)))

-- what was put last stands before the place that follows
pub put_last : (room : List ℕ) (at : ℕ) (front last : List ℕ) → at + length (front ++ last) ≤ length room
    → slice_range (put_text room at (front ++ last)) (at + length front) (at + length (front ++ last)) ≡ last
put_last room at front last fits =
    let sum = length-append front last in
    let size : (at + length (front ++ last)) - (at + length front) ≡ length last = omega (arith, sum) in
    rw (size, drop_put room at front last (at + length front) refl)
    (take_put (drop (at + length front) room) last (omega (arith, sum, fits, length-drop (at + length front) room)))
