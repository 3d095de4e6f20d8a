-- The blocks of a symbol as they are taken back out of it (ISO/IEC 18004, 7.5, 7.6 and 12).
use Rattle.std.specs.Prelude.{ℕ, List, Option, map, slice_index}
use Rattle.std.specs.Bool.{then_some}
use Rattle.std.specs.List.{concat, list_all, range_with_len, zip}
use Rattle.qrdata.specs.Reading.{deinterleaving, has_roots, interleaving_place}

-- block b of these lengths, whose codewords are interleaved
abbrev pub block_at : List ℕ → List ℕ → ℕ → List ℕ
block_at lengths codewords b =
    map (λ i. slice_index codewords (interleaving_place lengths b i)) (range_with_len 0 (slice_index lengths b))

-- the blocks of these lengths, joined, if each is a multiple of its generator with its k error correction codewords
unfoldable pub sound_blocks : (k : ℕ) (lengths ec_lengths codewords ec_codewords : List ℕ) → Option (List ℕ)
sound_blocks k lengths ec_lengths codewords ec_codewords =
    let blocks = deinterleaving lengths codewords in
    then_some (list_all (has_roots k) (zip blocks (deinterleaving ec_lengths ec_codewords))) (concat blocks)
