-- The codewords are read from their bits.
use Rattle.std.proofs.Common.{◌≡◌, ℕ, zero, suc, ◌+◌, ◌*◌, ◌/◌, ◌%◌, ◌<◌, refl, ap, ◌∙◌, arith, Bool, true, List, []}
use Rattle.std.proofs.Common.{◌∷◌, length}
use Rattle.std.specs.Prelude.{map, ◌==◌, All}
use Rattle.std.specs.List.{range_with_len}
use Rattle.std.proofs.lemmas.Bool.{eqb-true}
use Rattle.std.proofs.lemmas.List.Elements.{All-head, All-tail}
use Rattle.qrmatrix.specs.Bits.{bit}
use Rattle.qrmatrix.specs.Placement.{codeword_bit}
use Rattle.qrdata.specs.Bits.{number_of, codewords_of}
use Rattle.qrmatrix.proofs.Laws.SumLaws.{all_below, all_below_at}

spelled : ℕ → ℕ
unfolding number_of
spelled w = number_of (bit w 7 ∷ bit w 6 ∷ bit w 5 ∷ bit w 4 ∷ bit w 3 ∷ bit w 2 ∷ bit w 1 ∷ bit w 0 ∷ [])

-- computed for each byte
byte : (w : ℕ) → w < 256 → spelled w ≡ w
unfolding spelled
byte w h =
    let test : all_below 256 (λ w. spelled w == w) ≡ true = refl in
    eqb-true (spelled w) w (all_below_at 256 (λ w. spelled w == w) test w h)

map_shift : (f g : ℕ → Bool) (d : ℕ) → ((i : ℕ) → f (i + d) ≡ g i) → (a m : ℕ)
    → map f (range_with_len (a + d) m) ≡ map g (range_with_len a m)
map_shift f g d h a zero = refl
map_shift f g d h a (suc m) =
    let e : a + d + 1 ≡ a + 1 + d = omega arith in
    let s = map_shift f g d h (a + 1) m in
    let t = h a in
    cc

data_bit_shift : (w : ℕ) (ws : List ℕ) (i : ℕ) → codeword_bit (w ∷ ws) (i + 8) ≡ codeword_bit ws i
data_bit_shift w ws i =
    let q : (i + 8) / 8 ≡ suc (i / 8) = omega arith in
    let r : (i + 8) % 8 ≡ i % 8 = omega arith in
    rw (q, r)

codewords_of-first : (w : ℕ) (ws : List ℕ) (k m : ℕ) → w < 256
    → codewords_of (suc k) (map (codeword_bit (w ∷ ws))
    (range_with_len 0 (suc (suc (suc (suc (suc (suc (suc (suc m)))))))))) ≡ w
    ∷ codewords_of k (map (codeword_bit ws) (range_with_len 0 m))
unfolding spelled codewords_of number_of
codewords_of-first w ws k m h =
    let a = byte w h in
    let b = map_shift (codeword_bit (w ∷ ws)) (codeword_bit ws) 8 (data_bit_shift w ws) 0 m in
    cc

pub codewords_of-codeword_bits : (ws : List ℕ) (r : ℕ) → All (λ w. w < 256) ws
    → codewords_of (length ws) (map (codeword_bit ws) (range_with_len 0 (8 * length ws + r))) ≡ ws
unfolding codewords_of
codewords_of-codeword_bits [] r h = refl
codewords_of-codeword_bits (w ∷ ws) r h =
    let n : 8 * suc (length ws) + r ≡ suc (suc (suc (suc (suc (suc (suc (suc (8 * length ws + r)))))))) = omega arith in
    rw n (codewords_of-first w ws (length ws) (8 * length ws + r) (All-head (λ w. w < 256) w ws h)
    ∙ ap (λ xs. w ∷ xs) (codewords_of-codeword_bits ws r (All-tail (λ w. w < 256) w ws h)))
