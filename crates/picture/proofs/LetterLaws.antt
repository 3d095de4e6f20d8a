-- The text of a line, filled in from the left.
use Rattle.std.proofs.Common.{◌≡◌, ℕ, suc, ◌+◌, ◌-◌, ◌*◌, ◌<◌, ◌≤◌, Bool, true, false, List, [], ◌∷◌, ◌++◌, flat_map}
use Rattle.std.proofs.Common.{length, take, refl, ap, sym, ◌∙◌, arith, append_assoc, length-append}
use Rattle.std.proofs.Math.ListN.{get_or, set, replicate}
use Rattle.std.proofs.Math.Seq.{set-append_seam}
use Rattle.std.proofs.lemmas.List.{take_at, take_all, take_more, take-take, length-take-le, take-append-drop}
use Rattle.std.specs.Prelude.{slice_range}
use Rattle.std.proofs.lemmas.Slice.{between_is}
use Rattle.std.proofs.lemmas.Grind.{flat_map-append}
use Rattle.picture.specs.Text.{ascii_pixel}

-- a byte over the first of equal ones, with its place and number of equal bytes as a loop has them
put_at : (xs : List ℕ) (all i v b : ℕ) → length xs ≡ i → i < all
    → set (xs ++ replicate (all - i) v) i b ≡ (xs ++ b ∷ []) ++ replicate (all - (i + 1)) v
put_at xs all i v b e h =
    let rest = replicate (all - (i + 1)) v in
    let size : all - i ≡ suc (all - (i + 1)) = omega arith in
    rw (size, ← e) (set-append_seam xs v (replicate (all - (length xs + 1)) v) b)
    ∙ sym (append_assoc xs (b ∷ []) rest)

pub length-letters : (ps : List Bool) → length (flat_map ascii_pixel ps) ≡ 2 * length ps
length-letters [] = refl
length-letters (true ∷ ps) = ap (λ (n : ℕ). suc (suc n)) (length-letters ps) ∙ omega arith
length-letters (false ∷ ps) = ap (λ (n : ℕ). suc (suc n)) (length-letters ps) ∙ omega arith

-- the letters of one pixel more
pub letters_step : (ps : List Bool) (i b : ℕ) (text : List ℕ) → i < length ps → length ps ≤ 35
    → ascii_pixel (get_or ps i false) ≡ b ∷ b ∷ [] → text
    ≡ flat_map ascii_pixel (take i ps) ++ replicate (70 - 2 * i) 32 →
    set (set text (2 * i) b) (2 * i + 1) b ≡ flat_map ascii_pixel (take (i + 1) ps) ++ replicate (70 - 2 * (i + 1)) 32
letters_step ps i b text h short e so_far =
    let front = flat_map ascii_pixel (take i ps) in
    let size : length front ≡ 2 * i = omega (arith, length-letters (take i ps), length-take-le i ps (omega arith)) in
    let longer : length (front ++ b ∷ []) ≡ 2 * i + 1 = length-append front (b ∷ []) ∙ ap (λ (n : ℕ). n + 1) size in
    let places : 70 - ((2 * i + 1) + 1) ≡ 70 - 2 * (i + 1) = omega arith in
    rw (
      so_far,
      put_at front 70 (2 * i) 32 b size (omega arith),
      put_at (front ++ b ∷ []) 70 (2 * i + 1) 32 b longer (omega arith),
      places,
      take_more ps i false h,
      flat_map-append ascii_pixel (take i ps) (get_or ps i false ∷ []),
      e,
      append_assoc front (b ∷ []) (b ∷ []),
    ) refl

pub letters_all : (ps : List Bool) (i : ℕ) (text : List ℕ) → i ≡ length ps
    → text ≡ flat_map ascii_pixel (take i ps) ++ replicate (70 - 2 * i) 32
    → take (2 * length ps) text ≡ flat_map ascii_pixel ps
letters_all ps i text e so_far = rw (so_far, take_all i ps (omega arith))
    (take_at (flat_map ascii_pixel ps) (replicate (70 - 2 * i) 32) (2 * length ps) (length-letters ps))

-- a line in two parts
pub ascii_halves : (ps : List Bool) (half n : ℕ) → half ≤ n
    → flat_map ascii_pixel (take half ps) ++ flat_map ascii_pixel (slice_range ps half n)
    ≡ flat_map ascii_pixel (take n ps)
ascii_halves ps half n low =
    sym (flat_map-append ascii_pixel (take half ps) (slice_range ps half n))
    ∙ ap (flat_map ascii_pixel)
    (rw (between_is ps half n, ← take-take half n ps low) (take-append-drop half (take n ps)))
