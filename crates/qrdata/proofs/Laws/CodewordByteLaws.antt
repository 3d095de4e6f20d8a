-- The codewords of a symbol are bytes.
use Rattle.std.proofs.Common.{ℕ, zero, suc, ◌+◌, ◌<◌, ◌≤◌, List, [], ◌∷◌, drop, map}
use Rattle.qrdata.proofs.Laws.SegmentReadingLaws.{AreBytes-drop, AreBytes-take}
use Rattle.std.specs.Prelude.{IfSome, None, Option, Some, slice_get}
use Rattle.std.specs.List.{AllByRecursion, cons_option, flat_map, range_with_len}
use Rattle.gf256.specs.ErrorCorrection.{ec_codewords_of}
use Rattle.labelcore.specs.declared.level.Level.{Level}
use Rattle.qrdata.specs.declared.mode.Segment.{Segment}
use Rattle.qrdata.specs.Codewords.{codewords_at, data_codewords_of, final_message, interleaving, split_by}
use Rattle.qrdata.specs.Codewords.{symbol_codewords}
use Rattle.qrdata.specs.Segments.{segments_bits}
use Rattle.qrdata.specs.Versions.{block_lengths, data_codewords, ec_codewords_per_block}
use Rattle.qrdata.proofs.Laws.DataReadingLaws.{AreBytes-append, AreBytes-data_codewords_of, HasEcCodewords}
use Rattle.qrdata.proofs.Laws.DataReadingLaws.{have_ec_codewords}
use Rattle.qrdata.proofs.Laws.InterleavingLaws.{Blocks, longest}
use Rattle.labelcore.proofs.Laws.KeptLaws.{AreBytes}
use Rattle.qrdata.proofs.Laws.VersionLaws.{IsSound-of}

byte_at : (block : List ℕ) (place : ℕ) → AreBytes block → IfSome (slice_get block place) (λ b. b < 256)
byte_at [] place w = tt
byte_at (b ∷ block) zero w = w.0
byte_at (b ∷ block) (suc place) w = byte_at block place w.1

AreBytes-cons_option : (found : Option ℕ) (bytes : List ℕ) → IfSome found (λ b. b < 256) → AreBytes bytes
    → AreBytes (cons_option found bytes)
AreBytes-cons_option None bytes h w = w
AreBytes-cons_option (Some b) bytes h w = (h, w)

AreBytes-codewords_at : (blocks : Blocks) (place : ℕ) → AllByRecursion AreBytes blocks
    → AreBytes (codewords_at blocks place)
AreBytes-codewords_at [] place w = tt
AreBytes-codewords_at (block ∷ blocks) place w =
    AreBytes-cons_option (slice_get block place) (codewords_at blocks place)
    (byte_at block place w.0) (AreBytes-codewords_at blocks place w.1)

AreBytes-places : (blocks : Blocks) (a n : ℕ) → AllByRecursion AreBytes blocks
    → AreBytes (flat_map (codewords_at blocks) (range_with_len a n))
AreBytes-places blocks a zero w = tt
AreBytes-places blocks a (suc n) w =
    AreBytes-append (codewords_at blocks a) (flat_map (codewords_at blocks) (range_with_len (a + 1) n))
    (AreBytes-codewords_at blocks a w) (AreBytes-places blocks (a + 1) n w)

AreBytes-interleaving : (blocks : Blocks) → AllByRecursion AreBytes blocks → AreBytes (interleaving blocks)
unfolding interleaving
AreBytes-interleaving blocks w = AreBytes-places blocks 0 (longest blocks) w

AreBytes-split : (lengths codewords : List ℕ) → AreBytes codewords
    → AllByRecursion AreBytes (split_by lengths codewords)
unfolding split_by
AreBytes-split [] codewords w = tt
AreBytes-split (n ∷ lengths) codewords w = (
  AreBytes-take n codewords w,
  AreBytes-split lengths (drop n codewords) (AreBytes-drop n codewords w),
)

AreBytes-ec_codewords : (k : ℕ) (blocks : Blocks) → AllByRecursion (HasEcCodewords k) blocks
    → AllByRecursion AreBytes (map (ec_codewords_of k) blocks)
AreBytes-ec_codewords k [] law = tt
AreBytes-ec_codewords k (block ∷ blocks) law = (law.0.bytes, AreBytes-ec_codewords k blocks law.1)

-- the codewords of a symbol are bytes, whatever the segments and the data are
pub AreBytes-symbol_codewords : (version : ℕ) (level : Level) (segments : List Segment) (bytes : List ℕ) → 1 ≤ version
    → version ≤ 10 → AreBytes (symbol_codewords version level segments bytes)
unfolding symbol_codewords final_message
AreBytes-symbol_codewords version level segments bytes low high =
    let k = ec_codewords_per_block version level in
    let lengths = block_lengths version level in
    let message = data_codewords_of (data_codewords version level) (segments_bits version segments bytes) in
    let w = AreBytes-data_codewords_of (data_codewords version level) (segments_bits version segments bytes) in
    let blocks = split_by lengths message in
    let law = have_ec_codewords k (IsSound-of version level (low, high)).some_ec_codewords lengths message w in
    AreBytes-append (interleaving blocks) (interleaving (map (ec_codewords_of k) blocks))
    (AreBytes-interleaving blocks (AreBytes-split lengths message w))
    (AreBytes-interleaving (map (ec_codewords_of k) blocks) (AreBytes-ec_codewords k blocks law))
