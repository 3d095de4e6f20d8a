-- The choice of segments and of a version for data (ISO/IEC 18004, 7.4.1 and annex J leave it to the encoder).
-- Why: `chosen_segments`, `chosen_version`: 7.4.1 and annex J leave the choice to the encoder.
-- Why: `NoneFits`: 7.4.1 and annex J leave the choice to the encoder.
use Rattle.std.specs.Prelude.{ℕ, zero, suc, ◌-◌, ◌^◌, ◌<◌, List, [], ◌∷◌, map, length, take, drop, nat_lt, nat_le}
use Rattle.std.specs.Prelude.{◌&&◌, Bool, Option, filter, reverse}
use Rattle.std.specs.List.{best_of, find, flat_map, list_all, range_with_len}
use Rattle.labelcore.specs.declared.level.Level.{Level}
use Rattle.qrdata.specs.declared.mode.Segment.{Segment}
use Rattle.qrdata.specs.Segments.{IsSegmentation, cost, count_width, has_character, modes, segment_of}
use Rattle.qrdata.specs.Versions.{capacity}

-- a segment of each mode of each length, the longest first
abbrev pub candidates : ℕ → List Segment
candidates longest = flat_map (λ len. map (λ mode. segment_of mode len) modes) (reverse (range_with_len 1 longest))

-- whether a segment's mode has its bytes, and its character count holds its length
abbrev pub is_first : ℕ → List ℕ → Segment → Bool
is_first version bytes s =
    list_all (has_character s.mode) (take s.len bytes) && nat_lt s.len (2 ^ count_width version s.mode)

-- the segments that the bytes may begin with, the longest first, and of one length by the order of the modes
unfoldable pub first_segments : ℕ → List ℕ → List Segment
first_segments version bytes = filter (is_first version bytes) (candidates (length bytes))

-- the first list of the lowest cost
abbrev pub cheapest : ℕ → List (List Segment) → List Segment
cheapest version [] = []
cheapest version (segments ∷ lists) = best_of (λ s t. nat_lt (cost version s) (cost version t)) segments lists

-- Of the lists of a first segment and the best segments of the rest, the first of the lowest cost. There are
-- at most n bytes.
unfoldable pub best_within : ℕ → ℕ → List ℕ → List Segment
best_within version zero bytes = []
best_within version (suc n) bytes =
    cheapest version (map (λ s. s ∷ best_within version n (drop s.len bytes)) (first_segments version bytes))

-- the segments that are chosen for the bytes in a version
unfoldable pub chosen_segments : ℕ → List ℕ → List Segment
chosen_segments version bytes = best_within version (length bytes) bytes

-- the smallest version from a lowest one to 10 in which the segments of the bytes fit the data bits
unfoldable pub chosen_version : (lowest : ℕ) → Level → List ℕ → Option ℕ
chosen_version lowest level bytes =
    find (λ version. nat_le (cost version (chosen_segments version bytes)) (capacity version level))
    (range_with_len lowest (11 - lowest))

-- no list of segments of the bytes fits in a version
abbrev pub NoneFits : ℕ → Level → List ℕ → Type 0
NoneFits version level bytes =
    (segments : List Segment) → IsSegmentation version segments bytes → capacity version level < cost version segments
