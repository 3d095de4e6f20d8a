-- Blocks of codewords: how many codewords they have interleaved, what they are cut from, and the codewords of a place,
-- block by block.
use Rattle.std.proofs.Common.{◌≡◌, ℕ, zero, suc, ◌+◌, ◌-◌, ◌<◌, ◌≤◌, List, [], ◌∷◌, ◌++◌, map, take, drop, length, get_or}
use Rattle.std.proofs.Common.{refl, sym, ap, ◌∙◌, arith, min, sum, inl, inr}
use Rattle.std.specs.Prelude.{fold, max, slice_get, nat_lt, if◌then◌else◌, None, Some}
use Rattle.std.specs.List.{concat, cons_option, flat_map, range_with_len, sum_by}
use Rattle.std.proofs.lemmas.Bool.{cases_lt, le-ltb, lt-ltb}
use Rattle.std.proofs.lemmas.List.{drop-drop, drop_all, drop_more, take_all, get_or-drop, get_or-take, length-drop, length-take-le}
use Rattle.std.proofs.lemmas.List.{take-append-drop}
use Rattle.std.proofs.lemmas.List.Sums.{sum_by-cons, sum_by-drop_more}
use Rattle.std.proofs.lemmas.Option.{slice_get-get_or, slice_get_past}
use Rattle.qrdata.specs.Codewords.{codewords_at, interleaving, split_by}
use Rattle.qrdata.proofs.Laws.InterleavingLaws.{Blocks, fold-max, length_below, longest}

sum-cons : (n : ℕ) (ns : List ℕ) → sum (n ∷ ns) ≡ n + sum ns
sum-cons n ns = sum_by-cons (λ x. x) n ns

sum_by-min : (i : ℕ) (ns : List ℕ) → fold max 0 ns ≤ i → sum_by (min i) ns ≡ sum ns
sum_by-min i [] h = refl
sum_by-min i (n ∷ ns) h =
    let greatest = fold-max (max 0 n) ns in
    omega (arith, sum_by-cons (min i) n ns, sum-cons n ns, sum_by-min i ns (omega arith))

pub length-interleaving : (blocks : Blocks) → length (interleaving blocks) ≡ sum (map length blocks)
unfolding interleaving
length-interleaving blocks =
    length_below (longest blocks) blocks ∙ sum_by-min (longest blocks) (map length blocks) (omega arith)

pub split_lengths : (lengths : List ℕ) (codewords : List ℕ) → sum lengths ≤ length codewords
    → map length (split_by lengths codewords) ≡ lengths
unfolding split_by
split_lengths [] codewords h = refl
split_lengths (n ∷ lengths) codewords h =
    let both_parts : n + sum lengths ≤ length codewords = omega (arith, sum-cons n lengths) in
    let first : length (take n codewords) ≡ n = length-take-le n codewords (omega arith) in
    let later = split_lengths lengths (drop n codewords) (omega (arith, length-drop n codewords)) in
    rw (first, later) refl

pub split_joined : (lengths : List ℕ) (codewords : List ℕ) → sum lengths ≡ length codewords
    → concat (split_by lengths codewords) ≡ codewords
unfolding split_by
split_joined [] [] h = refl
split_joined [] (w ∷ codewords) h = absurd (omega arith)
split_joined (n ∷ lengths) codewords h =
    let both_parts : n + sum lengths ≡ length codewords = omega (arith, sum-cons n lengths) in
    rw (split_joined lengths (drop n codewords) (omega (arith, length-drop n codewords))) (take-append-drop n codewords)

pub length-split_by : (lengths : List ℕ) (codewords : List ℕ) → length (split_by lengths codewords) ≡ length lengths
unfolding split_by
length-split_by [] codewords = refl
length-split_by (n ∷ lengths) codewords = ap suc (length-split_by lengths (drop n codewords))

-- the codewords of a place that are left are that of the next block, if it has one, and those of the others
pub next_block : (lengths codewords : List ℕ) (i start place : ℕ) → i < length lengths
    → start + sum (drop i lengths) ≡ length codewords
    → codewords_at (split_by (drop i lengths) (drop start codewords)) place
    ≡ cons_option (if nat_lt place (get_or lengths i 0) then Some (get_or codewords (start + place) 0) else None)
    (codewords_at (split_by (drop (i + 1) lengths) (drop (start + get_or lengths i 0) codewords)) place)
unfolding split_by
next_block lengths codewords i start place h whole =
    let n = get_or lengths i 0 in
    let block = take n (drop start codewords) in
    let long : length block ≡ n = length-take-le n (drop start codewords)
    (omega (arith, length-drop start codewords, sum_by-drop_more (λ x. x) lengths i 0 h)) in
    let found : slice_get block place ≡ (if nat_lt place n then Some (get_or codewords (start + place) 0) else None) =
    elim (cases_lt place n) [
      | inl has ↦ rw (
        lt-ltb place n has,
        slice_get-get_or block place 0 (omega arith),
        get_or-take n (drop start codewords) place 0 has,
        get_or-drop start codewords place 0,
      ) refl
      | inr lacks ↦ rw (le-ltb place n lacks, slice_get_past block place (omega arith)) refl
    ] in
    rw (drop_more lengths i 0 h, ← drop-drop n start codewords, found) refl

-- the places that are left are the next one and those after it
pub next_place : (f : ℕ → List ℕ) (place rounds : ℕ) → place < rounds
    → flat_map f (range_with_len place (rounds - place)) ≡ f place
    ++ flat_map f (range_with_len (place + 1) (rounds - (place + 1)))
next_place f place rounds h = let more : rounds - place ≡ suc (rounds - (place + 1)) = omega arith in rw more refl

pub interleaving-rounds : (blocks : List (List ℕ)) (rounds : ℕ) → rounds ≡ longest blocks
    → flat_map (codewords_at blocks) (range_with_len 0 (rounds - 0)) ≡ interleaving blocks
unfolding interleaving
interleaving-rounds blocks rounds e = let same : rounds - 0 ≡ longest blocks = omega arith in rw same refl

-- the codewords of one block from a place on
one_block : (block : List ℕ) (n k : ℕ) → k + n ≡ length block
    → flat_map (codewords_at (block ∷ [])) (range_with_len k n) ≡ drop k block
one_block block zero k whole = sym (drop_all k block (omega arith))
one_block block (suc n) k whole =
    rw (
      slice_get-get_or block k 0 (omega arith),
      drop_more block k 0 (omega arith),
      one_block block n (k + 1) (omega arith),
    ) refl

-- all codewords in one block, interleaved
pub interleaving-one : (lengths codewords : List ℕ) → length lengths ≡ 1 → sum lengths ≡ length codewords
    → interleaving (split_by lengths codewords) ≡ codewords
unfolding interleaving split_by
interleaving-one (n ∷ []) codewords one whole =
    let size : n ≡ length codewords = omega (arith, sum-cons n []) in
    rw (size, take_all (length codewords) codewords (omega arith)) (one_block codewords (max 0 (length codewords)) 0 (omega arith))
interleaving-one [] codewords one whole = absurd (omega arith)
interleaving-one (n ∷ m ∷ lengths) codewords one whole = absurd (omega arith)

-- the interleaved codewords of blocks that the codewords are cut into are as many as the codewords
pub length-interleaving-split_by : (lengths codewords : List ℕ) → sum lengths ≡ length codewords
    → length (interleaving (split_by lengths codewords)) ≡ length codewords
length-interleaving-split_by lengths codewords e =
    length-interleaving (split_by lengths codewords) ∙ (ap sum (split_lengths lengths codewords (omega arith)) ∙ e)

-- the longest of the blocks that the codewords are cut into has the greatest of the lengths
pub longest-split_by : (lengths codewords : List ℕ) → sum lengths ≡ length codewords
    → longest (split_by lengths codewords) ≡ fold max 0 lengths
longest-split_by lengths codewords whole = ap (fold max 0) (split_lengths lengths codewords (omega arith))
