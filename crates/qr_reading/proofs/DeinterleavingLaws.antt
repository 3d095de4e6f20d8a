-- Blocks are taken back out of interleaved codewords one after another, and each is tested by its remainder.
use Rattle.std.proofs.Common.{◌≡◌, ℕ, suc, ◌+◌, ◌-◌, ◌<◌, ◌≤◌, List, [], ◌∷◌, ◌++◌, map, drop, All, min}
use Rattle.std.proofs.Common.{length, refl, sym, ap, ◌∙◌, append_assoc, length-append, arith, Bool, true, false}
use Rattle.std.proofs.Common.{◌*◌, eq-eqb, replicate, take}
use Rattle.std.specs.Bool.{then_some}
use Rattle.std.specs.Prelude.{None, Option, bytes_eq, if◌then◌else◌}
use Rattle.std.specs.List.{sum_by, concat, list_all, range_with_len, zip}
use Rattle.std.proofs.lemmas.Bool.Decides.{nat_tests}
use Rattle.std.proofs.lemmas.List.Elements.{All-append}
use Rattle.std.proofs.lemmas.List.Sums.{sum_by-le}
use Rattle.std.proofs.lemmas.Slice.Eq.{bytes_eq-Decides}
use Rattle.std.proofs.lemmas.List.{drop_at}
use Rattle.gf256.specs.Field.{IsElement}
use Rattle.gf256.specs.ErrorCorrection.{AreEcCodewords, wrong_codewords}
use Rattle.gf256.proofs.Laws.DistanceLaws.{close_codewords}
use Rattle.qr_reading.specs.Private.Blocks.{block_at, sound_blocks}
use Rattle.labelcore.specs.declared.level.Level.{Level}
use Rattle.qrdata.specs.Reading.{data_in, deinterleaving, has_roots, segments_at}
use Rattle.qrdata.specs.Segments.{byte_bits}
use Rattle.labelcore.specs.Steps.{◌>>=◌}
use Rattle.qrdata.specs.Versions.{block_lengths, data_codewords, ec_codewords_per_block, total_codewords}
use Rattle.qrdata.proofs.Laws.DamageLaws.{HasRoots-has_roots}
use Rattle.qrdata.proofs.Laws.DataReadingLaws.{roots_pass}

-- at most as many codewords as the places, for each block
pub few_below : (place : ℕ) (lengths : List ℕ) → place ≤ 255 → length lengths ≤ 8 → sum_by (min place) lengths ≤ 2040
few_below place lengths low few = omega (arith, few, sum_by-le (min place) 255 lengths (λ k d inside. omega (arith, low)))

-- ---- the test of a block

wrong_codewords-front : (block p q : List ℕ) → wrong_codewords (block ++ p) (block ++ q) ≡ wrong_codewords p q
unfolding wrong_codewords
wrong_codewords-front [] p q = refl
wrong_codewords-front (b ∷ block) p q =
    grind (arith, nat_tests, wrong_codewords-front block p q)

wrong_codewords-le : (p q : List ℕ) → wrong_codewords p q ≤ length p
unfolding wrong_codewords
wrong_codewords-le [] q = omega arith
wrong_codewords-le (a ∷ p) [] = omega arith
wrong_codewords-le (a ∷ p) (b ∷ q) = grind (arith, nat_tests, wrong_codewords-le p q)

-- error correction codewords that make the block a multiple of the generator are its remainder
remainder_of-roots : (k : ℕ) (block ec_codewords remainder : List ℕ) → AreEcCodewords k block remainder
    → length ec_codewords ≡ k → length block + k ≤ 255 → All IsElement block → All IsElement ec_codewords
    → has_roots k (block, ec_codewords) ≡ true → ec_codewords ≡ remainder
remainder_of-roots k block ec_codewords remainder are long short elements ec_elements roots =
    let count = are.remainder.ec_codewords_length in
    let near : wrong_codewords (block ++ remainder) (block ++ ec_codewords) ≤ k = omega (
      arith,
      count,
      wrong_codewords-front block remainder ec_codewords,
      wrong_codewords-le remainder ec_codewords,
    ) in
    let same = close_codewords k (block ++ remainder) (block ++ ec_codewords)
    (omega (arith, short, count, length-append block remainder))
    (omega (arith, long, count, length-append block remainder, length-append block ec_codewords))
    (All-append IsElement block remainder elements are.remainder.ec_codewords_elements)
    (All-append IsElement block ec_codewords elements ec_elements) are.roots
    (HasRoots-has_roots k block ec_codewords roots) near in
    sym (drop_at block ec_codewords (length block) refl) ∙ ap (drop (length block)) (sym same)
    ∙ drop_at block remainder (length block) refl

-- the remainder does
has_roots-remainder : (k : ℕ) (block remainder : List ℕ) → AreEcCodewords k block remainder
    → has_roots k (block, remainder) ≡ true
has_roots-remainder k block remainder are = roots_pass (block ++ remainder) k 0 (λ i h. are.roots i (omega (arith, h)))

agree : (a b : Bool) → (a ≡ true → b ≡ true) → (b ≡ true → a ≡ true) → a ≡ b
agree true b f g = sym (f refl)
agree false true f g = g refl
agree false false f g = refl

-- so that both tests are one
pub remainder_tests : (k : ℕ) (block ec_codewords remainder : List ℕ) → AreEcCodewords k block remainder
    → length ec_codewords ≡ k → length block + k ≤ 255 → All IsElement block → All IsElement ec_codewords
    → bytes_eq ec_codewords remainder ≡ has_roots k (block, ec_codewords)
remainder_tests k block ec_codewords remainder are long short elements ec_elements =
    agree (bytes_eq ec_codewords remainder) (has_roots k (block, ec_codewords))
    (λ same. rw ((bytes_eq-Decides ec_codewords remainder).0 same) (has_roots-remainder k block remainder are))
    (λ roots. (bytes_eq-Decides ec_codewords remainder).1
    (remainder_of-roots k block ec_codewords remainder are long short elements ec_elements roots))

-- ---- the blocks, one after another

module _ (k : ℕ) (lengths ec_lengths codewords ec_codewords : List ℕ) where
  -- the blocks so far, joined, and those from b on, if each of these is a multiple of its generator
  abbrev pub with_blocks : List ℕ → (b n : ℕ) → Option (List ℕ)
  with_blocks message b n =
      let blocks = map (block_at lengths codewords) (range_with_len b n) in
      then_some (list_all (has_roots k) (zip blocks (map (block_at ec_lengths ec_codewords) (range_with_len b n))))
      (message ++ concat blocks)

  pub all_blocks : (message : List ℕ) (n : ℕ) → message ≡ [] → n ≡ length lengths → n ≡ length ec_lengths
      → with_blocks message 0 n ≡ sound_blocks k lengths ec_lengths codewords ec_codewords
  unfolding sound_blocks deinterleaving
  all_blocks message n empty count ec_count = rw (empty, ← count, ← ec_count) refl

  -- a block that passes, and those after it
  pub one_block : (message block ec_block : List ℕ) (b n : ℕ) → b < n → block ≡ block_at lengths codewords b
      → ec_block ≡ block_at ec_lengths ec_codewords b → has_roots k (block, ec_block) ≡ true
      → with_blocks message b (n - b) ≡ with_blocks (message ++ block) (b + 1) (n - (b + 1))
  one_block message block ec_block b n inside is ec_is passes =
      let more : n - b ≡ suc (n - (b + 1)) = omega arith in
      rw (more, is, rw (is, ec_is) at passes, append_assoc message) refl

if_sound : {A B : Type 0} (is_sound : Bool) (x : A) (f : A → Option B)
    → (then_some is_sound x >>= f) ≡ (if is_sound then f x else None)
if_sound true x f = refl
if_sound false x f = refl

-- the data of a symbol is that of its blocks, where there are as many codewords as the version has
pub data_in-blocks : (version : ℕ) (level : Level) (codewords : List ℕ) → length codewords ≡ total_codewords version
    → (let k = ec_codewords_per_block version level in
    let lengths = block_lengths version level in
    let size = data_codewords version level in
    sound_blocks k lengths (replicate (length lengths) k) (take size codewords) (drop size codewords) >>= λ message.
    segments_at version (8 * size) (byte_bits message)) ≡ data_in version level codewords
unfolding data_in sound_blocks
data_in-blocks version level codewords all =
    let k = ec_codewords_per_block version level in
    let lengths = block_lengths version level in
    let size = data_codewords version level in
    let blocks = deinterleaving lengths (take size codewords) in
    let ec_blocks = deinterleaving (replicate (length lengths) k) (drop size codewords) in
    rw (eq-eqb (length codewords) (total_codewords version) all)
    (if_sound (list_all (has_roots k) (zip blocks ec_blocks)) (concat blocks)
    (λ (message : List ℕ). segments_at version (8 * size) (byte_bits message)))
