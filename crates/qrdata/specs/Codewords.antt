-- From segments to the codewords of a symbol (ISO/IEC 18004, 7.4.9, 7.4.10, 7.5 and 7.6).
-- Why: `with_pad_codewords`, `interleaving`, `symbol_codewords`: 7.4.9, 7.4.10, 7.5, 7.6.
use Rattle.std.specs.Prelude.{ℕ, ◌-◌, ◌*◌, ◌/◌, ◌%◌, ◌==◌, List, [], ◌∷◌, ◌++◌, map, length, take, drop, replicate}
use Rattle.std.specs.Prelude.{slice_get, Bool, false, if◌then◌else◌, fold, max, min}
use Rattle.std.specs.List.{filter_map, flat_map, range_with_len}
use Rattle.gf256.specs.ErrorCorrection.{ec_codewords_of}
use Rattle.labelcore.specs.declared.level.Level.{Level}
use Rattle.qrdata.specs.declared.mode.Segment.{Segment}
use Rattle.qrdata.specs.Bits.{codewords_of}
use Rattle.qrdata.specs.Segments.{segments_bits}
use Rattle.qrdata.specs.Versions.{data_codewords, block_lengths, ec_codewords_per_block}

-- the bits followed by the terminator, four zeros or as many as are left
unfoldable pub with_terminator : ℕ → List Bool → List Bool
with_terminator capacity bits = bits ++ replicate (min 4 (capacity - length bits)) false

-- zeros to the end of a codeword
unfoldable pub with_zeros : List Bool → List Bool
with_zeros bits = bits ++ replicate ((8 - length bits % 8) % 8) false

-- n pad codewords: 11101100 and 00010001 in turn
abbrev pub pad_codewords : ℕ → List ℕ
pad_codewords n = map (λ i. if i % 2 == 0 then 0xEC else 0x11) (range_with_len 0 n)

-- `size` codewords: those of the bits, and then pad codewords
unfoldable pub with_pad_codewords : ℕ → List Bool → List ℕ
with_pad_codewords size bits = codewords_of (length bits / 8) bits ++ pad_codewords (size - length bits / 8)

-- `size` data codewords: the bits, the terminator, zeros to the end of a codeword, and then pad codewords
unfoldable pub data_codewords_of : ℕ → List Bool → List ℕ
data_codewords_of size bits = with_pad_codewords size (with_zeros (with_terminator (8 * size) bits))

-- codewords cut into blocks of these lengths
unfoldable pub split_by : List ℕ → List ℕ → List (List ℕ)
split_by [] codewords = []
split_by (n ∷ lengths) codewords = take n codewords ∷ split_by lengths (drop n codewords)

-- the codewords at a place of the blocks that have one, block by block
abbrev pub codewords_at : List (List ℕ) → ℕ → List ℕ
codewords_at blocks place = filter_map (λ block. slice_get block place) blocks

-- the codewords of the blocks in the order of their places, and at one place in the order of the blocks
unfoldable pub interleaving : List (List ℕ) → List ℕ
interleaving blocks = flat_map (codewords_at blocks) (range_with_len 0 (fold max 0 (map length blocks)))

-- the codewords of a symbol: the blocks of its data codewords interleaved, then their error correction codewords
-- interleaved
unfoldable pub final_message : ℕ → Level → List ℕ → List ℕ
final_message version level codewords =
    let blocks = split_by (block_lengths version level) codewords in
    interleaving blocks ++ interleaving (map (ec_codewords_of (ec_codewords_per_block version level)) blocks)

-- the codewords of the symbol of segments of the data: the final message of the data codewords of their bits
unfoldable pub symbol_codewords : ℕ → Level → List Segment → List ℕ → List ℕ
symbol_codewords version level segments bytes = final_message version level
    (data_codewords_of (data_codewords version level) (segments_bits version segments bytes))
