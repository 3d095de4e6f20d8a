-- Codewords that are both read, and whose blocks differ in at most as many codewords as are for error correction, hold
-- the same data.
use Rattle.std.proofs.Common.{◌≡◌, ℕ, zero, suc, ◌+◌, ◌*◌, ◌<◌, ◌≤◌, List, [], ◌∷◌, ◌++◌, map, take, drop, get_or}
use Rattle.std.proofs.Common.{length, replicate, refl, sym, ap, subst, ◌∙◌, length-append, arith, Bool, true, false}
use Rattle.std.proofs.Common.{cond, inl, inr, min}
use Rattle.std.specs.Prelude.{if◌then◌else◌, None, Some, Option, ◌&&◌, ◌==◌, ◌⊎◌, All, nat_lt, slice_index}
use Rattle.std.specs.List.{concat, count_by, list_all, range_with_len, sum_by, zip}
use Rattle.std.proofs.lemmas.Bool.Decides.{nat_tests}
use Rattle.std.proofs.lemmas.Bool.{cases_lt, eqb-true, leb-true, lt-ltb}
use Rattle.std.proofs.lemmas.List.{ext_get_or, get_or_past, get_or-replicate, length-replicate, length-take}
use Rattle.std.proofs.lemmas.List.{length-drop, take-append-drop}
use Rattle.std.proofs.lemmas.List.Elements.{All-append, All-drop, All-get_or, All-map, All-take}
use Rattle.std.proofs.lemmas.List.FromFn.{get_or-map-range_with_len, get_or-range_with_len, length-map-range_with_len}
use Rattle.std.proofs.lemmas.List.FromFn.{length-range_with_len}
use Rattle.std.proofs.lemmas.List.Sums.{AllPass-from_list_all, sum_by-cons, sum_by_more_le}
use Rattle.std.proofs.lemmas.Slice.Zip.{get_or-zip, length-zip}
use Rattle.std.proofs.lemmas.Option.{none-some, same_Some}
use Rattle.std.proofs.Math.Seq.{take-append_seam}
use Rattle.gf256.specs.Field.{alpha, field_power, IsElement}
use Rattle.gf256.specs.Polynomial.{evaluate}
use Rattle.gf256.specs.ErrorCorrection.{HasRoots, wrong_codewords}
use Rattle.gf256.proofs.Laws.DistanceLaws.{close_codewords, wrong_codewords-by}
use Rattle.labelcore.specs.declared.level.Level.{Level}
use Rattle.qrdata.specs.Reading.{data_in, deinterleaving, has_roots, interleaving_place, segments_at, block_in, AreNear}
use Rattle.qrdata.specs.Reading.{IsGuarded, AreCorrectable, IsCorrected}
use Rattle.qrdata.specs.Segments.{byte_bits}
use Rattle.qrdata.specs.Versions.{IsVersion, block_lengths, data_codewords, ec_codewords_per_block, total_codewords}
use Rattle.qrdata.proofs.Laws.VersionLaws.{IsSound-of}

-- ---- blocks by their index

module _ (lengths : List ℕ) (words : List ℕ) where
  dealt : ℕ → List ℕ
  dealt b = map (λ i. slice_index words (interleaving_place lengths b i)) (range_with_len 0 (slice_index lengths b))

  length-deinterleaving : length (deinterleaving lengths words) ≡ length lengths
  unfolding deinterleaving dealt
  length-deinterleaving = length-map-range_with_len dealt 0 (length lengths)

  deinterleaving-at : (b : ℕ) → b < length lengths → get_or (deinterleaving lengths words) b [] ≡ dealt b
  unfolding deinterleaving dealt
  deinterleaving-at b h = get_or-map-range_with_len dealt 0 (length lengths) b b [] h (omega arith)

  length-dealt : (b : ℕ) → length (dealt b) ≡ slice_index lengths b
  unfolding dealt
  length-dealt b = length-map-range_with_len _ 0 (slice_index lengths b)

  element_at : All IsElement words → (i : ℕ) → get_or words i 0 < 256
  element_at all i = elim (cases_lt i (length words)) [
    | inl inside ↦ All-get_or IsElement words i 0 inside all
    | inr past ↦ rw (get_or_past words i 0 past) (omega arith)
  ]

  All-dealt : All IsElement words → (b : ℕ) → All IsElement (dealt b)
  unfolding dealt
  All-dealt all b = All-map IsElement (λ i. slice_index words (interleaving_place lengths b i))
      (range_with_len 0 (slice_index lengths b)) (λ k d inside. element_at all _)

-- ---- the blocks of a symbol

pub HasRoots-has_roots : (k : ℕ) (block ec_block : List ℕ) → has_roots k (block, ec_block) ≡ true
    → HasRoots k (block ++ ec_block)
HasRoots-has_roots k block ec_block all i h =
    let test = λ (i : ℕ). evaluate (block ++ ec_block) (field_power alpha i) == 0 in
    let passes : test (get_or (range_with_len 0 k) i 0) ≡ true =
    AllPass-from_list_all test (range_with_len 0 k) all i 0 (omega (arith, length-range_with_len 0 k)) in
    let at : get_or (range_with_len 0 k) i 0 ≡ i = omega (arith, get_or-range_with_len 0 k i 0 h) in
    eqb-true _ 0 (subst (λ j. test j ≡ true) at passes)

-- what reading codewords has found
record IsReading (version : ℕ) (level : Level) (codewords bytes : List ℕ) : Type 0 where
  roots :
      list_all (has_roots (ec_codewords_per_block version level))
      (zip (deinterleaving (block_lengths version level) (take (data_codewords version level) codewords))
      (deinterleaving (replicate (length (block_lengths version level)) (ec_codewords_per_block version level))
      (drop (data_codewords version level) codewords))) ≡ true
  read : segments_at version (8 * data_codewords version level)
      (byte_bits (concat (deinterleaving (block_lengths version level)
      (take (data_codewords version level) codewords)))) ≡ Some bytes

both_parts : {A : Type 0} (a b : Bool) (x : Option A) (y : A) → (if a && b then x else None) ≡ Some y
    → (b ≡ true) × (x ≡ Some y)
both_parts true true x y h = (refl, h)
both_parts true false x y h = absurd (none-some y h)
both_parts false true x y h = absurd (none-some y h)
both_parts false false x y h = absurd (none-some y h)

IsReading-of : (version : ℕ) (level : Level) (codewords bytes : List ℕ) → data_in version level codewords ≡ Some bytes
    → IsReading version level codewords bytes
unfolding data_in
IsReading-of version level codewords bytes e =
    let parts = both_parts (length codewords == total_codewords version) _ _ bytes e in
    record { roots = parts.0; read = parts.1 }

module _ (version : ℕ) (level : Level) (words : List ℕ) where
  abbrev size : ℕ
  size = data_codewords version level

  abbrev k : ℕ
  k = ec_codewords_per_block version level

  abbrev lengths : List ℕ
  lengths = block_lengths version level

  abbrev ec_lengths : List ℕ
  ec_lengths = replicate (length lengths) k

  abbrev data_block : ℕ → List ℕ
  data_block b = dealt lengths (take size words) b

  abbrev ec_block : ℕ → List ℕ
  ec_block b = dealt ec_lengths (drop size words) b

  blocks_at : (b : ℕ) → b < length lengths
      → (get_or (deinterleaving lengths (take size words)) b [] ≡ data_block b)
      × (get_or (deinterleaving ec_lengths (drop size words)) b [] ≡ ec_block b)
  blocks_at b h = (
    deinterleaving-at lengths (take size words) b h,
    deinterleaving-at ec_lengths (drop size words) b (omega (arith, h, length-replicate (length lengths) k)),
  )

  block_in-dealt : (b : ℕ) → b < length lengths → block_in version level words b ≡ data_block b ++ ec_block b
  unfolding block_in
  block_in-dealt b h = let at = blocks_at b h in λ i. at.0 i ++ at.1 i

  length-block_in : (b : ℕ) → b < length lengths
      → length (block_in version level words b) ≡ slice_index lengths b + k
  length-block_in b h = ap length (block_in-dealt b h) ∙ length-append (data_block b) (ec_block b)
      ∙ (λ i. length-dealt lengths (take size words) b i
      + (length-dealt ec_lengths (drop size words) b ∙ get_or-replicate (length lengths) b k 0 h) i)

  All-block_in : All IsElement words → (b : ℕ) → b < length lengths → All IsElement (block_in version level words b)
  All-block_in all b h = rw (block_in-dealt b h) (All-append IsElement (data_block b) (ec_block b)
      (All-dealt lengths (take size words) (All-take IsElement size words all) b)
      (All-dealt ec_lengths (drop size words) (All-drop IsElement size words all) b))

  HasRoots-block_in : (bytes : List ℕ) → IsReading version level words bytes → (b : ℕ) → b < length lengths
      → HasRoots k (block_in version level words b)
  HasRoots-block_in bytes reading b h =
      let blocks = deinterleaving lengths (take size words) in
      let ec_blocks = deinterleaving ec_lengths (drop size words) in
      let inside : b < length blocks = omega (arith, h, length-deinterleaving lengths (take size words)) in
      let ec_inside : b < length ec_blocks = omega (
        arith,
        h,
        length-deinterleaving ec_lengths (drop size words),
        length-replicate (length lengths) k,
      ) in
      let both = get_or-zip blocks ec_blocks b ([], []) inside ec_inside in
      let roots = AllPass-from_list_all (has_roots k) (zip blocks ec_blocks) reading.roots b ([], [])
      (omega (arith, inside, ec_inside, length-zip blocks ec_blocks)) in
      let at = blocks_at b h in
      rw (block_in-dealt b h) (HasRoots-has_roots k (data_block b) (ec_block b)
      (subst (λ (pair : List ℕ × List ℕ). has_roots k pair ≡ true) (both ∙ (λ i. (at.0 i, at.1 i))) roots))

-- near codewords that are both read hold the same data
pub near_codewords : (version : ℕ) (level : Level) → IsVersion version → (codewords other : List ℕ)
    → All IsElement codewords → All IsElement other → (bytes other_bytes : List ℕ)
    → data_in version level codewords ≡ Some bytes → data_in version level other ≡ Some other_bytes
    → AreNear version level codewords other → bytes ≡ other_bytes
unfolding AreNear
near_codewords version level known codewords other elements other_elements bytes other_bytes read other_read near =
    let one = IsReading-of version level codewords bytes read in
    let two = IsReading-of version level other other_bytes other_read in
    let lengths = block_lengths version level in
    let size = data_codewords version level in
    let count = λ (words : List ℕ). length-deinterleaving lengths (take size words) in
    let short = AllPass-from_list_all _ lengths (IsSound-of version level known).short_blocks in
    let same = λ (b : ℕ) (h : b < length lengths).
    close_codewords (ec_codewords_per_block version level) (block_in version level codewords b)
    (block_in version level other b)
    (omega (arith, length-block_in version level codewords b h, leb-true _ 255 (short b 0 h)))
    (length-block_in version level other b h ∙ sym (length-block_in version level codewords b h))
    (All-block_in version level codewords elements b h) (All-block_in version level other other_elements b h)
    (HasRoots-block_in version level codewords bytes one b h)
    (HasRoots-block_in version level other other_bytes two b h) (near b h) in
    let data_same = λ (b : ℕ) (h : b < length lengths).
    let first = data_block version level codewords b in
    let second = data_block version level other b in
    let long = length-dealt lengths (take size codewords) b ∙ sym (length-dealt lengths (take size other) b) in
    deinterleaving-at lengths (take size codewords) b h ∙ sym (take-append_seam first _)
    ∙ ap (take (length first)) (sym (block_in-dealt version level codewords b h) ∙ same b h
    ∙ block_in-dealt version level other b h)
    ∙ ap (λ n. take n (second ++ ec_block version level other b)) long ∙ take-append_seam second _
    ∙ sym (deinterleaving-at lengths (take size other) b h) in
    let blocks = ext_get_or [] (deinterleaving lengths (take size codewords)) (deinterleaving lengths (take size other))
    (count codewords ∙ sym (count other)) (λ b h. data_same b (omega (arith, h, count codewords))) in
    same_Some bytes other_bytes (sym one.read
    ∙ ap (λ (l : List (List ℕ)). segments_at version (8 * size) (byte_bits (concat l))) blocks ∙ two.read)

pub IsGuarded-of : (version : ℕ) (level : Level) (codewords bytes : List ℕ) → IsVersion version
    → All IsElement codewords → data_in version level codewords ≡ Some bytes
    → IsGuarded version level codewords bytes
IsGuarded-of version level codewords bytes known elements read other other_elements near =
    at (data_in version level other) refl
  where
    at : (o : Option (List ℕ)) → data_in version level other ≡ o
        → (data_in version level other ≡ None) ⊎ (data_in version level other ≡ Some bytes)
    at None is = inl is
    at (Some found) is = inr (is ∙ ap Some (sym (near_codewords version level known codewords other elements
        other_elements bytes found read is near)))

-- ---- few wrong codewords

wrong-append : (p e q f : List ℕ) → length q ≡ length p
    → wrong_codewords (p ++ e) (q ++ f) ≡ wrong_codewords p q + wrong_codewords e f
unfolding wrong_codewords
wrong-append [] e [] f long = omega arith
wrong-append [] e (y ∷ q) f long = absurd (omega arith)
wrong-append (x ∷ p) e [] f long = absurd (omega arith)
wrong-append (x ∷ p) e (y ∷ q) f long = omega (arith, wrong-append p e q f (omega arith))

wrong-split : (n : ℕ) (words other : List ℕ) → length other ≡ length words
    → wrong_codewords (take n words) (take n other) + wrong_codewords (drop n words) (drop n other)
    ≡ wrong_codewords words other
wrong-split n words other long = sym (rw (take-append-drop n words, take-append-drop n other) at
    (wrong-append (take n words) (drop n words) (take n other) (drop n other)
    (omega (arith, long, length-take {A = ℕ}))))

-- from a place on
wrong_from : List ℕ → List ℕ → ℕ → ℕ
wrong_from words other n = wrong_codewords (drop n words) (drop n other)

-- the codeword at a place and those from a later one on
wrong_at : (words other : List ℕ) (n m : ℕ) → n < m → length other ≡ length words
    → (if slice_index words n == slice_index other n then 0 else 1) + wrong_from words other m
    ≤ wrong_from words other n
unfolding wrong_from wrong_codewords
wrong_at words other n zero later long = absurd (omega arith)
wrong_at [] [] n (suc m) later long = omega arith
wrong_at [] (y ∷ other) n (suc m) later long = absurd (omega arith)
wrong_at (x ∷ words) [] n (suc m) later long = absurd (omega arith)
wrong_at (x ∷ words) (y ∷ other) zero (suc m) later long = omega (arith, wrong-split m words other (omega arith))
wrong_at (x ∷ words) (y ∷ other) (suc n) (suc m) later long = wrong_at words other n m (omega arith) (omega arith)

-- codewords at rising places have no more wrong ones than all from the first place on
wrong_at_places : (words other : List ℕ) (place : ℕ → ℕ) (a m : ℕ) → length other ≡ length words
    → ((i : ℕ) → a ≤ i → suc i < a + m → place i < place (suc i))
    → wrong_codewords (map (λ i. slice_index words (place i)) (range_with_len a m))
    (map (λ i. slice_index other (place i)) (range_with_len a m)) ≤ wrong_from words other (place a)
unfolding wrong_codewords
wrong_at_places words other place a zero long rising = omega arith
wrong_at_places words other place a (suc zero) long rising =
    omega (arith, wrong_at words other (place a) (suc (place a)) (omega arith) long)
wrong_at_places words other place a (suc (suc m)) long rising =
    let rest = wrong_at_places words other place (a + 1) (suc m) long
    (λ i h j. rising i (omega (arith, h)) (omega (arith, j))) in
    let next : suc a ≡ a + 1 = omega arith in
    let step : place a < place (a + 1) = rw next at (rising a (omega arith) (omega arith)) in
    omega (arith, rest, wrong_at words other (place a) (place (a + 1)) step long)

-- the codewords of a round are as many as the blocks that are longer
next_round : (i : ℕ) (lengths : List ℕ)
    → sum_by (min (suc i)) lengths ≡ sum_by (min i) lengths + count_by (nat_lt i) lengths
next_round i [] = refl
next_round i (n ∷ lengths) =
    let rest = next_round i lengths in
    rw (
      sum_by-cons (min (suc i)) n lengths,
      sum_by-cons (min i) n lengths,
      sum_by-cons (λ n. cond (nat_lt i n) 1 0) n lengths,
    ) (grind (arith, nat_tests, rest))

-- the places of a block's codewords rise
places_rise : (lengths : List ℕ) (b i : ℕ) → b < length lengths → suc i < slice_index lengths b
    → interleaving_place lengths b i < interleaving_place lengths b (suc i)
places_rise lengths b i h long =
    let round = sum_by_more_le (λ n. cond (nat_lt i n) 1 0) lengths b 0 h in
    omega (arith, next_round i lengths, rw (lt-ltb i (slice_index lengths b) (omega arith)) at round)

-- a block has no more wrong codewords than all
wrong_dealt : (lengths words other : List ℕ) (b : ℕ) → b < length lengths → length other ≡ length words
    → wrong_codewords (dealt lengths words b) (dealt lengths other b) ≤ wrong_codewords words other
unfolding dealt wrong_from
wrong_dealt lengths words other b h long =
    omega (
      arith,
      wrong_at_places words other (interleaving_place lengths b) 0 (slice_index lengths b) long
          (λ i low below. places_rise lengths b i h (omega (arith, below))),
      wrong-split (interleaving_place lengths b 0) words other long,
    )

-- where at most as many codewords of a whole symbol are wrong as a block has for error correction, each block is near
pub AreNear-few : (version : ℕ) (level : Level) (codewords other : List ℕ) → length other ≡ length codewords
    → wrong_codewords codewords other ≤ ec_codewords_per_block version level → AreNear version level codewords other
unfolding AreNear
AreNear-few version level codewords other long few b h =
    let size = data_codewords version level in
    let lengths = block_lengths version level in
    let k = ec_codewords_per_block version level in
    let ec_lengths = replicate (length lengths) k in
    rw (
      block_in-dealt version level codewords b h,
      block_in-dealt version level other b h,
      wrong-append (dealt lengths (take size codewords) b) (dealt ec_lengths (drop size codewords) b)
          (dealt lengths (take size other) b) (dealt ec_lengths (drop size other) b)
          (length-dealt lengths (take size other) b ∙ sym (length-dealt lengths (take size codewords) b)),
    )
    (omega (
      arith,
      few,
      wrong-split size codewords other long,
      wrong_dealt lengths (take size codewords) (take size other) b h (omega (arith, length-take {A = ℕ}, long)),
      wrong_dealt ec_lengths (drop size codewords) (drop size other) b
          (omega (arith, h, length-replicate (length lengths) k)) (omega (arith, length-drop {A = ℕ}, long)),
    ))

-- ---- few enough to be corrected

pub IsCorrected-of : (version : ℕ) (level : Level) (codewords bytes : List ℕ) → IsVersion version
    → All IsElement codewords → data_in version level codewords ≡ Some bytes
    → IsCorrected version level codewords bytes
unfolding AreNear AreCorrectable
IsCorrected-of version level codewords bytes known elements read seen corrected found other_elements few other_few is =
    let block = block_in version level in
    let long = λ (words : List ℕ) (b : ℕ) (h : b < length (block_lengths version level)).
    length-block_in version level words b h ∙ sym (length-block_in version level codewords b h) in
    sym (near_codewords version level known codewords corrected elements other_elements bytes found read is
    (λ b h. omega (
      arith,
      few b h,
      other_few b h,
      wrong_codewords-by (block codewords b) (block corrected b) (block seen b) (long seen b h) (long corrected b h),
    )))
