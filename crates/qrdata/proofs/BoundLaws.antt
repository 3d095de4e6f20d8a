-- How many segments fit, and how many bits bytes have.
use Rattle.std.proofs.Common.{ℕ, ◌+◌, ◌*◌, ◌/◌, ◌<◌, ◌≤◌, List, [], ◌∷◌, drop, length, arith, true, false, cond}
use Rattle.std.specs.Prelude.{nat_lt}
use Rattle.std.proofs.lemmas.List.{length-drop}
use Rattle.std.proofs.lemmas.List.Sums.{sum_by-cons}
use Rattle.labelcore.specs.declared.level.Level.{Level}
use Rattle.qrdata.specs.declared.mode.Mode.{Mode}
use Rattle.qrdata.specs.declared.mode.Mode.TheVariants.{Numeric, Alphanumeric, Byte}
use Rattle.qrdata.specs.declared.mode.Segment.{Segment}
use Rattle.qrdata.specs.Segments.{IsSegmentation, cost, segment_length, segment_of}
use Rattle.qrdata.specs.Versions.{IsVersion, capacity}
use Rattle.qrdata.proofs.Laws.VersionLaws.{IsSound-of}

-- Up to version 9 a segment has 18 bits at least, and in version 10 it has 20. It has a third of ten bits for each of
-- its bytes.
least : (version : ℕ) (mode : Mode) (n : ℕ) → 0 < n
    → (cond (nat_lt version 10) 18 20 ≤ segment_length version (segment_of mode n))
    × (10 * n ≤ 3 * segment_length version (segment_of mode n))
least version Numeric n some = elim (nat_lt version 10) as (λ t. (cond t 18 20 ≤ 4 + cond t 10 12 + (10 * n + 2) / 3)
    × (10 * n ≤ 3 * (4 + cond t 10 12 + (10 * n + 2) / 3)))
    [ true ↦ (omega arith, omega arith) | false ↦ (omega arith, omega arith) ]
least version Alphanumeric n some = elim (nat_lt version 10) as (λ t.
    (cond t 18 20 ≤ 4 + cond t 9 11 + (11 * n + 1) / 2)
    × (10 * n ≤ 3 * (4 + cond t 9 11 + (11 * n + 1) / 2)))
    [ true ↦ (omega arith, omega arith) | false ↦ (omega arith, omega arith) ]
least version Byte n some = elim (nat_lt version 10) as (λ t. (cond t 18 20 ≤ 4 + cond t 8 16 + 8 * n)
    × (10 * n ≤ 3 * (4 + cond t 8 16 + 8 * n)))
    [ true ↦ (omega arith, omega arith) | false ↦ (omega arith, omega arith) ]

many : (version : ℕ) (segments : List Segment) (bytes : List ℕ) → IsSegmentation version segments bytes
    → cond (nat_lt version 10) 18 20 * length segments ≤ cost version segments
many version [] bytes cut = omega arith
many version (s ∷ segments) bytes cut =
    let first = least version s.mode s.len cut.0.some in
    let later = many version segments (drop s.len bytes) cut.1 in
    omega (arith, sum_by-cons (segment_length version) s segments, first.0, later)

-- segments that fit are at most 109
pub few_segments : (version : ℕ) (level : Level) (segments : List Segment) (bytes : List ℕ) → IsVersion version
    → IsSegmentation version segments bytes → cost version segments ≤ capacity version level → length segments ≤ 109
few_segments version level segments bytes known cut fits = elim (nat_lt version 10) as (λ t.
    cond t 18 20 * length segments ≤ cost version segments
    → capacity version level ≤ cond (nat_lt (cond t 8 16) 16) 1856 2192 → length segments ≤ 109)
    [ true ↦ λ least few. omega arith | false ↦ λ least few. omega arith ] (many version segments bytes cut)
    (IsSound-of version level known).few_bits

-- a byte costs at least a third of ten bits
pub third : (version : ℕ) (segments : List Segment) (bytes : List ℕ) → IsSegmentation version segments bytes
    → 10 * length bytes ≤ 3 * cost version segments
third version [] bytes cut = rw cut (omega arith)
third version (s ∷ segments) bytes cut =
    omega (
      arith,
      sum_by-cons (segment_length version) s segments,
      (least version s.mode s.len cut.0.some).1,
      third version segments (drop s.len bytes) cut.1,
      length-drop s.len bytes,
      cut.0.inside,
    )
