-- Deinterleaving undoes interleaving.
use Rattle.std.proofs.Common.{◌≡◌, ℕ, zero, suc, ◌+◌, ◌<◌, ◌≤◌, List, [], ◌∷◌, map, take, drop, length, get_or}
use Rattle.std.proofs.Common.{min, refl, ap, sym, ◌∙◌, length-append, arith, inl, inr, cond}
use Rattle.std.specs.Prelude.{fold, max, slice_get, slice_index, nat_lt}
use Rattle.std.specs.List.{count_by, flat_map, range_with_len, cons_option, sum_by}
use Rattle.std.proofs.lemmas.Bool.{cases_lt, lt-ltb, le-ltb}
use Rattle.std.proofs.lemmas.List.{get_or-map, length-map}
use Rattle.std.proofs.lemmas.List.Concat.{get_or-flat_map}
use Rattle.std.proofs.lemmas.List.FromFn.{fill_by_all, get_or-range_with_len, length-range_with_len}
use Rattle.std.proofs.lemmas.List.Sums.{sum_by-cons}
use Rattle.std.proofs.lemmas.Option.{slice_get-get_or, slice_get_past}
use Rattle.qrdata.specs.Codewords.{interleaving, codewords_at}
use Rattle.qrdata.specs.Reading.{deinterleaving, interleaving_place}

abbrev pub Blocks : Type 0
Blocks = List (List ℕ)

codewords_at-tails : (blocks : Blocks) (place : ℕ) → codewords_at (map (drop 1) blocks) place
    ≡ codewords_at blocks (suc place)
codewords_at-tails [] place = refl
codewords_at-tails ([] ∷ blocks) place = codewords_at-tails blocks place
codewords_at-tails ((w ∷ codewords) ∷ blocks) place = ap (cons_option (slice_get codewords place))
    (codewords_at-tails blocks place)

places_from : (blocks : Blocks) (n a : ℕ)
    → flat_map (codewords_at (map (drop 1) blocks)) (range_with_len a n)
    ≡ flat_map (codewords_at blocks) (range_with_len (suc a) n)
places_from blocks zero a = refl
places_from blocks (suc n) a =
    let next : suc a + 1 ≡ suc (a + 1) = omega arith in
    rw (codewords_at-tails blocks a, places_from blocks n (a + 1), next) refl

-- the length of the longest block
abbrev pub longest : Blocks → ℕ
longest blocks = fold max 0 (map length blocks)

pub fold-max : (n : ℕ) (ns : List ℕ) → fold max n ns ≡ max n (fold max 0 ns)
fold-max n [] = omega arith
fold-max n (m ∷ ns) = omega (arith, fold-max (max n m) ns, fold-max (max 0 m) ns)

longest-cons : (block : List ℕ) (blocks : Blocks) → longest (block ∷ blocks) ≡ max (length block) (longest blocks)
longest-cons block blocks = omega (arith, fold-max (max 0 (length block)) (map length blocks))

le-longest : (blocks : Blocks) (b : ℕ) → length (get_or blocks b []) ≤ longest blocks
le-longest [] b = omega arith
le-longest (x ∷ xs) zero = omega (arith, longest-cons x xs)
le-longest (x ∷ xs) (suc b) = omega (arith, longest-cons x xs, le-longest xs b)

-- the codewords of a place, and of each block those of the places below i but the first
first_below : (i : ℕ) (blocks : Blocks)
    → length (codewords_at blocks 0) + sum_by (min i) (map length (map (drop 1) blocks))
    ≡ sum_by (min (suc i)) (map length blocks)
first_below i [] = refl
first_below i ([] ∷ blocks) =
    let less = sum_by-cons (min i) 0 (map length (map (drop 1) blocks)) in
    omega (arith, first_below i blocks, less, sum_by-cons (min (suc i)) 0 (map length blocks))
first_below i ((w ∷ codewords) ∷ blocks) =
    let less = sum_by-cons (min i) (length codewords) (map length (map (drop 1) blocks)) in
    omega (arith, first_below i blocks, less, sum_by-cons (min (suc i)) (suc (length codewords)) (map length blocks))

none_below : (ns : List ℕ) → 0 ≡ sum_by (min 0) ns
none_below [] = refl
none_below (n ∷ ns) = omega (arith, none_below ns, sum_by-cons (min 0) n ns)

-- how many codewords have places below i
pub length_below : (i : ℕ) (blocks : Blocks)
    → length (flat_map (codewords_at blocks) (range_with_len 0 i)) ≡ sum_by (min i) (map length blocks)
length_below zero blocks = none_below (map length blocks)
length_below (suc i) blocks =
    let later = length_below i (map (drop 1) blocks) in
    rw (
      length-append (codewords_at blocks 0) (flat_map (codewords_at blocks) (range_with_len 1 i)),
      ← places_from blocks i 0,
      later,
    ) (first_below i blocks)

-- among the codewords at a place, that of block b comes after those of the blocks before it
abbrev place_in_round : Blocks → ℕ → ℕ → ℕ
place_in_round blocks b i = count_by (nat_lt i) (take b (map length blocks))

in_round : (blocks : Blocks) (b i : ℕ) → b < length blocks → i < length (get_or blocks b [])
    → (place_in_round blocks b i < length (codewords_at blocks i))
    × (get_or (codewords_at blocks i) (place_in_round blocks b i) 0 ≡ get_or (get_or blocks b []) i 0)
in_round [] b i block codeword = absurd (omega arith)
in_round (x ∷ xs) zero i block codeword = rw (slice_get-get_or x i 0 codeword) (omega arith, refl)
in_round (x ∷ xs) (suc b) i block codeword =
    let rest = in_round xs b i (omega arith) codeword in
    let one = sum_by-cons (λ n. cond (nat_lt i n) 1 0) (length x) (take b (map length xs)) in
    elim (cases_lt i (length x)) [
      | inl has ↦
          let more : place_in_round (x ∷ xs) (suc b) i ≡ suc (place_in_round xs b i) =
          omega (arith, rw (lt-ltb i (length x) has) at one) in
          rw (slice_get-get_or x i 0 has, more) (omega (arith, rest.0), rest.1)
      | inr lacks ↦
          let same : place_in_round (x ∷ xs) (suc b) i ≡ place_in_round xs b i =
          omega (arith, rw (le-ltb i (length x) lacks) at one) in
          rw (slice_get_past x i lacks, same) rest
    ]

take_range : (n a i : ℕ) → i ≤ n → take i (range_with_len a n) ≡ range_with_len a i
take_range n a zero h = refl
take_range zero a (suc i) h = absurd (omega arith)
take_range (suc n) a (suc i) h = ap (λ ns. a ∷ ns) (take_range n (a + 1) i (omega arith))

-- each codeword of a block is at its place among the interleaved codewords
placed : (blocks : Blocks) (b i : ℕ) → b < length blocks → i < length (get_or blocks b [])
    → slice_index (interleaving blocks) (interleaving_place (map length blocks) b i) ≡ get_or (get_or blocks b []) i 0
unfolding interleaving
placed blocks b i block codeword =
    let n = longest blocks in
    let below : i < n = omega (arith, le-longest blocks b) in
    let here = in_round blocks b i block codeword in
    let place : get_or (range_with_len 0 n) i 0 ≡ i = omega (arith, get_or-range_with_len 0 n i 0 below) in
    let found = get_or-flat_map (codewords_at blocks) (range_with_len 0 n) i (place_in_round blocks b i) 0 0
    (omega (arith, length-range_with_len 0 n)) (rw place here.0) in
    let same = rw (place, take_range n 0 i (omega arith), length_below i blocks) at found in
    same ∙ here.1

-- interleaved codewords are deinterleaved to their blocks
pub deinterleaving-interleaving : (blocks : Blocks) → deinterleaving (map length blocks) (interleaving blocks) ≡ blocks
unfolding deinterleaving
deinterleaving-interleaving blocks =
    let lengths = map length blocks in
    let codeword = λ (b i : ℕ). slice_index (interleaving blocks) (interleaving_place lengths b i) in
    let block = λ (b : ℕ). map (codeword b) (range_with_len 0 (slice_index lengths b)) in
    sym (fill_by_all block blocks (length lengths) [] (sym (length-map blocks length)) (λ b inside.
    let here : b < length blocks = omega (arith, length-map blocks length) in
    let size : length (get_or blocks b []) ≡ slice_index lengths b = sym (get_or-map length blocks b [] 0 here) in
    fill_by_all (codeword b) (get_or blocks b []) (slice_index lengths b) 0 size
    (λ i low. sym (placed blocks b i here (omega arith)))))
