-- The blocks of a message on their way into a symbol (ISO/IEC 18004, 7.5 and 7.6).
use Rattle.std.specs.Prelude.{◌≡◌, ◌≤◌, ◌+◌, ◌*◌, ℕ, List, length, map, replicate, sum}
use Rattle.std.specs.List.{flat_map}
use Rattle.gf256.specs.ErrorCorrection.{ec_codewords_of}
use Rattle.labelcore.specs.declared.level.Level.{Level}
use Rattle.labelcore.specs.declared.level.Level.TheVariants.{L, M, Q, H}
use Rattle.qrdata.specs.Codewords.{split_by}
use Rattle.qrdata.specs.Versions.{block_lengths, ec_codewords_per_block}

-- how many blocks a symbol has
unfoldable pub block_count : ℕ → Level → ℕ
block_count version level = length (block_lengths version level)

-- the place of a level in a row of the tables of the code
abbrev pub place_of : Level → ℕ
place_of L = 0
place_of M = 1
place_of Q = 2
place_of H = 3

-- the message is cut into at most 8 blocks, which fit a symbol with their error correction codewords
pub record HasBlocks (version : ℕ) (level : Level) (message : List ℕ) : Type 0 where
  pub count : length (block_lengths version level) ≡ block_count version level
  pub whole : sum (block_lengths version level) ≡ length message
  pub ec_blocks : length (flat_map (ec_codewords_of (ec_codewords_per_block version level))
      (split_by (block_lengths version level) message))
      ≡ block_count version level * ec_codewords_per_block version level
  pub cut : split_by (replicate (length (block_lengths version level)) (ec_codewords_per_block version level))
      (flat_map (ec_codewords_of (ec_codewords_per_block version level)) (split_by
      (block_lengths version level) message))
      ≡ map (ec_codewords_of (ec_codewords_per_block version level)) (split_by (block_lengths version level) message)
  pub few : block_count version level ≤ 8
  pub total : length message + block_count version level * ec_codewords_per_block version level ≤ 346
