-- What is read of the codewords of a symbol is its data.
use Rattle.std.proofs.Common.{◌≡◌, ℕ, zero, suc, ◌+◌, ◌-◌, ◌*◌, ◌/◌, ◌%◌, ◌<◌, ◌≤◌, List, [], ◌∷◌, ◌++◌, map, take}
use Rattle.std.proofs.Common.{drop, get_or, length, replicate, refl, sym, ap, ◌∙◌, length-append, arith, Bool, true}
use Rattle.std.proofs.Common.{false, sum}
use Rattle.std.specs.Prelude.{if◌then◌else◌, None, Some, Option, ◌&&◌, ◌==◌}
use Rattle.std.specs.List.{AllByRecursion, concat, flat_map, list_all, range_with_len, zip}
use Rattle.std.proofs.lemmas.Bool.{eq-eqb, eqb-true}
use Rattle.std.proofs.lemmas.List.{length-take, take_at, drop_at}
use Rattle.std.proofs.Math.Nat.{pow-le-pow_right}
use Rattle.std.proofs.lemmas.List.Folds.{sum_by-replicate}
use Rattle.std.proofs.lemmas.List.Elements.{All-from_get_or, All-from_recursion, recursion_from_All}
use Rattle.gf256.specs.Field.{alpha, field_power, IsElement}
use Rattle.gf256.specs.Polynomial.{evaluate}
use Rattle.gf256.specs.ErrorCorrection.{ec_codewords_of, HasRoots, IsRemainder}
use Rattle.gf256.proofs.Laws.GeneratorLaws.{HasRoots-remainder, IsRemainder-ec_codewords_of}
use Rattle.labelcore.specs.declared.level.Level.{Level}
use Rattle.qrdata.specs.declared.mode.Segment.{Segment}
use Rattle.qrdata.specs.Bits.{number_of, codewords_of}
use Rattle.qrdata.specs.Codewords.{with_zeros, with_pad_codewords, final_message, interleaving, pad_codewords}
use Rattle.qrdata.specs.Codewords.{data_codewords_of, split_by, symbol_codewords, with_terminator}
use Rattle.qrdata.specs.Reading.{data_in, deinterleaving, has_roots, segments_at}
use Rattle.qrdata.specs.Segments.{IsSegmentation, cost, segments_bits}
use Rattle.qrdata.specs.Private.Blocks.{HasBlocks, block_count}
use Rattle.qrdata.specs.Versions.{IsVersion, block_lengths, data_codewords, ec_codewords_per_block, total_codewords}
use Rattle.qrdata.proofs.Laws.BitStringLaws.{number_of-lt}
use Rattle.qrdata.proofs.Laws.BlockLaws.{length-interleaving, length-split_by, split_joined, split_lengths}
use Rattle.qrdata.proofs.Laws.InterleavingLaws.{Blocks, deinterleaving-interleaving}
use Rattle.qrdata.proofs.Laws.LengthLaws.{count_below_cost, length-segments_bits}
use Rattle.qrdata.proofs.Laws.PaddingLaws.{length-data_codewords_of, data_codewords_of-ends}
use Rattle.labelcore.proofs.Laws.KeptLaws.{AreBytes}
use Rattle.qrdata.proofs.Laws.VersionLaws.{IsSound-of}
use Rattle.qrdata.proofs.Laws.SegmentReadingLaws.{AreBytes-take, AreBytes-drop, segments_at-segments_bits}

-- the error correction codewords of a block are as many as they should be, and bytes, and with them the block is a
-- multiple of its generator
pub record HasEcCodewords (k : ℕ) (block : List ℕ) : Type 0 where
  pub count : length (ec_codewords_of k block) ≡ k
  pub roots : has_roots k (block, ec_codewords_of k block) ≡ true
  pub bytes : AreBytes (ec_codewords_of k block)

pub roots_pass : (p : List ℕ) (n low : ℕ) → ((i : ℕ) → i < low + n → evaluate p (field_power alpha i) ≡ 0)
    → list_all (λ i. evaluate p (field_power alpha i) == 0) (range_with_len low n) ≡ true
roots_pass p zero low h = refl
roots_pass p (suc n) low h =
    let here = eq-eqb (evaluate p (field_power alpha low)) 0 (h low (omega arith)) in
    rw (here, roots_pass p n (low + 1) (λ i less. h i (omega arith))) refl

HasEcCodewords-of : (k : ℕ) → 0 < k → (block : List ℕ) → AreBytes block → HasEcCodewords k block
HasEcCodewords-of k some block w =
    let here : IsRemainder k block (ec_codewords_of k block) =
    IsRemainder-ec_codewords_of k block some (All-from_recursion IsElement block w) in
    let roots : HasRoots k (block ++ ec_codewords_of k block) =
    HasRoots-remainder k block (ec_codewords_of k block) here in
    record {
      count = here.ec_codewords_length;
      roots = roots_pass (block ++ ec_codewords_of k block) k 0 (λ i h. roots i (omega arith));
      bytes = recursion_from_All IsElement (ec_codewords_of k block) here.ec_codewords_elements;
    }

-- the same of each block of a message
pub have_ec_codewords : (k : ℕ) → 0 < k → (lengths message : List ℕ) → AreBytes message
    → AllByRecursion (HasEcCodewords k) (split_by lengths message)
unfolding split_by
have_ec_codewords k some [] message w = tt
have_ec_codewords k some (n ∷ lengths) message w = (
  HasEcCodewords-of k some (take n message) (AreBytes-take n message w),
  have_ec_codewords k some lengths (drop n message) (AreBytes-drop n message w),
)

ec_lengths : (k : ℕ) (blocks : Blocks) → AllByRecursion (HasEcCodewords k) blocks
    → map length (map (ec_codewords_of k) blocks) ≡ replicate (length blocks) k
ec_lengths k [] law = refl
ec_lengths k (block ∷ blocks) law = rw (law.0.count, ec_lengths k blocks law.1) refl

-- the error correction codewords of all blocks, which have equal lengths, are cut apart again
pub split_by-flat_map : (k : ℕ) (blocks : Blocks) → AllByRecursion (HasEcCodewords k) blocks
    → split_by (replicate (length blocks) k) (flat_map (ec_codewords_of k) blocks) ≡ map (ec_codewords_of k) blocks
unfolding split_by
split_by-flat_map k [] law = refl
split_by-flat_map k (block ∷ blocks) law = rw (
  take_at (ec_codewords_of k block) (flat_map (ec_codewords_of k) blocks) k law.0.count,
  drop_at (ec_codewords_of k block) (flat_map (ec_codewords_of k) blocks) k law.0.count,
  split_by-flat_map k blocks law.1,
) refl

pub length-flat_map : (k : ℕ) (blocks : Blocks) → AllByRecursion (HasEcCodewords k) blocks
    → length (flat_map (ec_codewords_of k) blocks) ≡ length blocks * k
length-flat_map k [] law = omega arith
length-flat_map k (block ∷ blocks) law = omega (
  arith,
  length-append (ec_codewords_of k block) (flat_map (ec_codewords_of k) blocks),
  law.0.count,
  length-flat_map k blocks law.1,
)

-- a slice of bytes
pub AreBytes-slice : (bytes : List ℕ) → ((i : ℕ) → get_or bytes i 0 < 256) → AreBytes bytes
AreBytes-slice bytes each = recursion_from_All (λ b. b < 256) bytes
    (All-from_get_or (λ b. b < 256) bytes 0 (λ i h. each i))

pub AreBytes-append : (xs ys : List ℕ) → AreBytes xs → AreBytes ys → AreBytes (xs ++ ys)
AreBytes-append [] ys v w = w
AreBytes-append (x ∷ xs) ys v w = (v.0, AreBytes-append xs ys v.1 w)

eight_below : (bits : List Bool) → number_of (take 8 bits) < 256
eight_below bits =
    let short : length (take 8 bits) ≤ 8 = omega (arith, length-take 8 bits) in
    omega (arith, number_of-lt (take 8 bits), pow-le-pow_right {n = 2} (omega arith) short)

pub AreBytes-codewords_of : (n : ℕ) (bits : List Bool) → AreBytes (codewords_of n bits)
unfolding codewords_of
AreBytes-codewords_of zero bits = tt
AreBytes-codewords_of (suc n) bits = (eight_below bits, AreBytes-codewords_of n (drop 8 bits))

pad_below : (is_first : Bool) → (if is_first then 0xEC else 0x11) < 256
pad_below true = omega arith
pad_below false = omega arith

AreBytes-pads_from : (a n : ℕ) → AreBytes (map (λ i. if i % 2 == 0 then 0xEC else 0x11) (range_with_len a n))
AreBytes-pads_from a zero = tt
AreBytes-pads_from a (suc n) = (pad_below (a % 2 == 0), AreBytes-pads_from (a + 1) n)

pub AreBytes-data_codewords_of : (size : ℕ) (bits : List Bool) → AreBytes (data_codewords_of size bits)
unfolding data_codewords_of with_pad_codewords
AreBytes-data_codewords_of size bits =
    let whole = with_zeros (with_terminator (8 * size) bits) in
    AreBytes-append (codewords_of (length whole / 8) whole) (pad_codewords (size - length whole / 8))
    (AreBytes-codewords_of (length whole / 8) whole) (AreBytes-pads_from 0 (size - length whole / 8))

all_have_roots : (k : ℕ) (blocks : Blocks) → AllByRecursion (HasEcCodewords k) blocks
    → list_all (has_roots k) (zip blocks (map (ec_codewords_of k) blocks)) ≡ true
all_have_roots k [] law = refl
all_have_roots k (block ∷ blocks) law = rw (law.0.roots, all_have_roots k blocks law.1) refl

-- the sum of the lengths of the blocks, and how many they are
pub lengths_hold : (version : ℕ) (level : Level) → (sum (block_lengths version level) ≡ data_codewords version level)
    × (length (block_lengths version level) ≡ block_count version level)
unfolding data_codewords block_count
lengths_hold version level = (refl, refl)

-- the blocks of the data codewords and of the error correction codewords, taken back out of a final message
record IsDealtBack (version : ℕ) (level : Level) (codewords : List ℕ) : Type 0 where
  total : length (final_message version level codewords) ≡ total_codewords version
  blocks : deinterleaving (block_lengths version level) (take (data_codewords version level)
      (final_message version level codewords)) ≡ split_by (block_lengths version level) codewords
  ec_blocks :
      deinterleaving (replicate (length (block_lengths version level)) (ec_codewords_per_block version level))
      (drop (data_codewords version level) (final_message version level codewords))
      ≡ map (ec_codewords_of (ec_codewords_per_block version level)) (split_by (block_lengths version level) codewords)

IsDealtBack-of : (version : ℕ) (level : Level) (codewords : List ℕ) → 1 ≤ version → version ≤ 10
    → length codewords ≡ data_codewords version level
    → AllByRecursion (HasEcCodewords (ec_codewords_per_block version level))
    (split_by (block_lengths version level) codewords) → IsDealtBack version level codewords
unfolding final_message
IsDealtBack-of version level codewords low high size_is law =
    let k = ec_codewords_per_block version level in
    let lengths = block_lengths version level in
    let blocks = split_by lengths codewords in
    let ec_blocks = map (ec_codewords_of k) blocks in
    let shapes = lengths_hold version level in
    let block_shapes : map length blocks ≡ lengths = split_lengths lengths codewords (omega (arith, shapes.0)) in
    let ec_shapes : map length ec_blocks ≡ replicate (length lengths) k =
    ec_lengths k blocks law ∙ ap (λ n. replicate n k) (length-split_by lengths codewords) in
    let data_length : length (interleaving blocks) ≡ data_codewords version level =
    length-interleaving blocks ∙ (ap sum block_shapes ∙ shapes.0) in
    let ec_length : length (interleaving ec_blocks) ≡ block_count version level * k =
    length-interleaving ec_blocks ∙ (ap sum ec_shapes
    ∙ (sum_by-replicate (λ x. x) (length lengths) k ∙ ap (λ n. n * k) shapes.1)) in
    let total = (IsSound-of version level (low, high)).all in record {
      total = omega (arith, length-append (interleaving blocks) (interleaving ec_blocks), total);
      blocks = rw (take_at (interleaving blocks) (interleaving ec_blocks) (data_codewords version level) data_length)
          (rw block_shapes at (deinterleaving-interleaving blocks));
      ec_blocks = rw
          (drop_at (interleaving blocks) (interleaving ec_blocks) (data_codewords version level) data_length)
          (rw ec_shapes at (deinterleaving-interleaving ec_blocks));
    }

-- what is read of the codewords of a symbol
pub data_in-symbol_codewords : (version : ℕ) (level : Level) (segments : List Segment) (bytes : List ℕ)
    → 1 ≤ version → version ≤ 10 → AreBytes bytes → IsSegmentation version segments bytes
    → cost version segments ≤ 8 * data_codewords version level
    → data_in version level (symbol_codewords version level segments bytes) ≡ Some bytes
unfolding data_in symbol_codewords
data_in-symbol_codewords version level segments bytes low high w cut fits =
    let size = data_codewords version level in
    let k = ec_codewords_per_block version level in
    let lengths = block_lengths version level in
    let bits = segments_bits version segments bytes in
    let codewords = data_codewords_of size bits in
    let bits_fit : length bits ≤ 8 * size = omega (arith, length-segments_bits version segments bytes cut, fits) in
    let size_is : length codewords ≡ size = length-data_codewords_of size bits bits_fit in
    let law = have_ec_codewords k (IsSound-of version level (low, high)).some_ec_codewords lengths codewords
    (AreBytes-data_codewords_of size bits) in
    let dealt = IsDealtBack-of version level codewords low high size_is law in
    let valid = all_have_roots k (split_by lengths codewords) law in
    let joined : concat (split_by lengths codewords) ≡ codewords =
    split_joined lengths codewords ((lengths_hold version level).0 ∙ sym size_is) in
    let ends = data_codewords_of-ends size bits bits_fit in
    let read : segments_at version (8 * size) (bits ++ ends.0) ≡ Some bytes =
    segments_at-segments_bits version segments bytes (8 * size) ends.0 w cut
    (omega (arith, count_below_cost version segments, fits)) ends.2 in
    let same : (total_codewords version == total_codewords version) ≡ true =
    eq-eqb (total_codewords version) (total_codewords version) refl in
    rw (dealt.total, dealt.blocks, dealt.ec_blocks, valid, same, joined, ends.1) read

both_pass : {A : Type 0} (a b : Bool) (x : Option A) (y : A) → (if a && b then x else None) ≡ Some y → a ≡ true
both_pass true b x y h = refl
both_pass false b x y h = cc

-- codewords that are read are as many as the symbol has
pub length-read : (version : ℕ) (level : Level) (codewords bytes : List ℕ) → data_in version level codewords
    ≡ Some bytes
    → length codewords ≡ total_codewords version
unfolding data_in
length-read version level codewords bytes h = eqb-true (length codewords) (total_codewords version)
    (both_pass _ _ _ bytes h)

-- a message of all data codewords is cut into blocks that fill a symbol
pub HasBlocks-of : (version : ℕ) (level : Level) (message : List ℕ) → IsVersion version → AreBytes message
    → length message ≡ data_codewords version level → HasBlocks version level message
HasBlocks-of version level message known bytes all =
    let k = ec_codewords_per_block version level in
    let lengths = block_lengths version level in
    let blocks = split_by lengths message in
    let sound = IsSound-of version level known in
    let shapes = lengths_hold version level in
    let law = have_ec_codewords k sound.some_ec_codewords lengths message bytes in
    let same : length blocks ≡ length lengths = length-split_by lengths message in
    record {
      count = shapes.1;
      whole = shapes.0 ∙ sym all;
      ec_blocks = length-flat_map k blocks law ∙ ap (λ n. n * k) (same ∙ shapes.1);
      cut = rw (← same) (split_by-flat_map k blocks law);
      few = sound.few_blocks;
      total = omega (arith, sound.all, sound.few_codewords, all);
    }
