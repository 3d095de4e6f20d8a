-- Facts of the table of versions: tests computed over all of it.
use Rattle.std.proofs.Common.{◌≡◌, ℕ, suc, zero, ◌+◌, ◌-◌, ◌*◌, ◌/◌, ◌%◌, ◌<◌, ◌≤◌, List, [], ◌∷◌, ◌++◌, replicate}
use Rattle.std.proofs.Common.{refl, arith, Bool, true, false, cond, inl, inr}
use Rattle.std.specs.Prelude.{bytes_eq, nat_lt, nat_le, ◌==◌, slice_index, slice_index_or}
use Rattle.std.specs.List.{AllPass, list_all}
use Rattle.std.proofs.lemmas.Bool.{agree_below, agree_below_at, cases_lt, eqb-true, leb-true, ltb-true}
use Rattle.std.proofs.lemmas.List.Sums.{AllPass-from_list_all}
use Rattle.std.proofs.lemmas.Slice.Eq.{bytes_eq-Decides}
use Rattle.labelcore.specs.declared.level.Level.{Level}
use Rattle.labelcore.specs.declared.level.Level.TheVariants.{L, M, Q, H}
use Rattle.qrdata.specs.declared.mode.Mode.TheVariants.{Byte}
use Rattle.qrdata.specs.declared.version.TheConstants.{SIZES}
use Rattle.qrdata.specs.declared.version.Sizes.{Sizes}
use Rattle.qrdata.specs.Private.Blocks.{block_count, place_of}
use Rattle.qrdata.specs.Segments.{count_width}
use Rattle.qrdata.specs.Versions.{IsVersion, block_lengths, block_table, capacity, data_codewords}
use Rattle.qrdata.specs.Versions.{ec_codewords_per_block, groups_of, total_codewords}

-- the data bits of the greatest version whose character counts are as wide
abbrev pub widest : ℕ → ℕ
widest version = cond (nat_lt (count_width version Byte) 16) 1856 2192

-- the data codewords of each of `blocks` blocks, which are as even as can be, the short ones first
abbrev pub even_lengths : ℕ → ℕ → List ℕ
even_lengths blocks codewords = replicate (blocks - codewords % blocks) (codewords / blocks)
    ++ replicate (codewords % blocks) (codewords / blocks + 1)

-- the row of a version in the table of the code, which has one for each
abbrev pub sizes : Sizes → ℕ → Sizes
sizes missing version = slice_index_or SIZES (version - 1) missing

-- what is true of the symbols of a version at a level
pub record IsSound (version : ℕ) (level : Level) : Type 0 where
  pub some_blocks : 0 < block_count version level
  pub few_blocks : block_count version level ≤ 8
  pub some_ec_codewords : 0 < ec_codewords_per_block version level
  pub few_ec_codewords : ec_codewords_per_block version level ≤ 30
  pub all : data_codewords version level + block_count version level * ec_codewords_per_block version level
      ≡ total_codewords version
  pub few_codewords : total_codewords version ≤ 346
  pub few_bits : capacity version level ≤ widest version
  pub more : data_codewords (version - 1) level ≤ data_codewords version level
  pub even : even_lengths (block_count version level) (data_codewords version level) ≡ block_lengths version level
  pub short_blocks : list_all (λ n. nat_le (n + ec_codewords_per_block version level) 255) (block_lengths version level)
      ≡ true
  pub coded_total : (missing : Sizes) → (sizes missing version).total ≡ total_codewords version
  pub coded_blocks : (missing : Sizes)
      → slice_index (sizes missing version).blocks (place_of level) ≡ block_count version level
  pub coded_ec_codewords : (missing : Sizes)
      → slice_index (sizes missing version).ec_codewords (place_of level) ≡ ec_codewords_per_block version level

tests : Sizes → Level → ℕ → List Bool
tests missing level version =
    let blocks = block_count version level in
    let ec_codewords = ec_codewords_per_block version level in
    let codewords = data_codewords version level in
    let total = total_codewords version in
    nat_lt 0 blocks ∷ nat_le blocks 8 ∷ nat_lt 0 ec_codewords ∷ nat_le ec_codewords 30
    ∷ (codewords + blocks * ec_codewords == total) ∷ nat_le total 346
    ∷ nat_le (8 * codewords) (widest version) ∷ nat_le (data_codewords (version - 1) level) codewords
    ∷ bytes_eq (even_lengths blocks codewords) (block_lengths version level)
    ∷ ((sizes missing version).total == total)
    ∷ (slice_index (sizes missing version).blocks (place_of level) == blocks)
    ∷ (slice_index (sizes missing version).ec_codewords (place_of level) == ec_codewords)
    ∷ list_all (λ n. nat_le (n + ec_codewords) 255) (block_lengths version level) ∷ []

tests_pass : (missing : Sizes) (level : Level)
    → agree_below (λ k. list_all (λ test. test) (tests missing level (suc k))) (λ k. true) 10 ≡ true
unfolding tests data_codewords total_codewords block_count ec_codewords_per_block block_lengths groups_of block_table
tests_pass missing L = refl
tests_pass missing M = refl
tests_pass missing Q = refl
tests_pass missing H = refl

pub IsSound-of : (version : ℕ) (level : Level) → IsVersion version → IsSound version level
unfolding tests
IsSound-of zero level known = absurd (omega (arith, known.0))
IsSound-of (suc k) level known =
    let coded : (missing : Sizes) → AllPass (λ test. test) (tests missing level (suc k)) = λ missing.
    AllPass-from_list_all (λ test. test) (tests missing level (suc k))
    (agree_below_at (λ k. list_all (λ test. test) (tests missing level (suc k))) (λ k. true) 10 k
    (tests_pass missing level) (omega (arith, known.1))) in
    let test = coded (record { total = 0; blocks = []; ec_codewords = [] }) in
    record {
      some_blocks = ltb-true _ _ (test 0 true (omega arith));
      few_blocks = leb-true _ _ (test 1 true (omega arith));
      some_ec_codewords = ltb-true _ _ (test 2 true (omega arith));
      few_ec_codewords = leb-true _ _ (test 3 true (omega arith));
      all = eqb-true _ _ (test 4 true (omega arith));
      few_codewords = leb-true _ _ (test 5 true (omega arith));
      few_bits = leb-true _ _ (test 6 true (omega arith));
      more = leb-true _ _ (test 7 true (omega arith));
      even = (bytes_eq-Decides _ _).0 (test 8 true (omega arith));
      coded_total = λ missing. eqb-true _ _ (coded missing 9 true (omega arith));
      coded_blocks = λ missing. eqb-true _ _ (coded missing 10 true (omega arith));
      coded_ec_codewords = λ missing. eqb-true _ _ (coded missing 11 true (omega arith));
      short_blocks = test 12 true (omega arith);
    }

widest-le : (version : ℕ) → widest version ≤ 2192
widest-le version = elim (nat_lt version 10) as (λ t. cond (nat_lt (cond t 8 16) 16) 1856 2192 ≤ 2192)
    [ true ↦ omega arith | false ↦ omega arith ]

-- no symbol has more than 2192 data bits, so at most 274 data codewords
pub capacity-le : (level : Level) (version : ℕ) → IsVersion version → capacity version level ≤ 2192
capacity-le level version known = omega (arith, (IsSound-of version level known).few_bits, widest-le version)

pub ruleset most_bits = (capacity-le)

pub data_codewords-few : {n : ℕ} (version : ℕ) (level : Level) → n ≡ data_codewords version level → IsVersion version
    → n ≤ 274
data_codewords-few version level e known = omega (arith, e, capacity-le level version known)

-- a later version has no fewer data bits
pub capacity-rising : (level : Level) (v w : ℕ) → v ≤ w → w ≤ 10 → capacity v level ≤ capacity w level
capacity-rising level v zero below high = let same : v ≡ 0 = omega arith in rw same (omega arith)
capacity-rising level v (suc w) below high = elim (cases_lt v (suc w)) [
  | inl less ↦
      let last : suc w - 1 ≡ w = omega arith in
      let more = rw last at (IsSound-of (suc w) level (omega arith, high)).more in
      omega (arith, capacity-rising level v w (omega arith) (omega arith))
  | inr last ↦ let same : v ≡ suc w = omega arith in rw same (omega arith)
]
