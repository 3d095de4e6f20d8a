-- A table of best first segments is right in all versions whose character counts are as
-- wide.
use Rattle.std.proofs.Common.{◌≡◌, ℕ, ◌+◌, ◌<◌, ◌≤◌, List, ◌∷◌, drop, length}
use Rattle.std.proofs.Common.{sym, subst, ap, ◌∙◌, arith, cond}
use Rattle.std.specs.Prelude.{nat_lt}
use Rattle.std.proofs.lemmas.List.{drop-drop, length-drop}
use Rattle.std.proofs.lemmas.List.Sums.{sum_by-cons}
use Rattle.labelcore.specs.declared.level.Level.{Level}
use Rattle.qrdata.specs.declared.mode.Mode.TheVariants.{Byte}
use Rattle.qrdata.specs.declared.mode.Segment.{Segment}
use Rattle.qrdata.specs.Fewest.{chosen_segments}
use Rattle.qrdata.specs.Private.Firsts.{first_at}
use Rattle.qrdata.specs.declared.firsts.Firsts.{Firsts}
use Rattle.qrdata.specs.Private.SmallestPlan.{FitsBits, IsTable, NamesBest, SameWidths}
use Rattle.qrdata.specs.Segments.{IsSegmentation, cost, segment_length}
use Rattle.qrdata.specs.Private.Table.{NamesFirsts, choices_of, fewest_bits}
use Rattle.qrdata.specs.Versions.{IsVersion, capacity}
use Rattle.qrdata.proofs.BoundLaws.{few_segments}
use Rattle.qrdata.proofs.BestChoiceLaws.{fewest_bits-le_cost}
use Rattle.qrdata.proofs.ChoiceLimitLaws.{Agrees-if_fits}
use Rattle.qrdata.proofs.Laws.FewestBitsLaws.{chosen_segments-is}
use Rattle.qrdata.proofs.SameWidthLaws.{chosen_segments-same, cost-chosen_same}
use Rattle.qrdata.proofs.Laws.VersionLaws.{IsSound-of, widest}

-- the capacities of the versions whose character counts are as wide
pub capacity_as_wide : (v w : ℕ) (level : Level) → SameWidths v w → 1 ≤ v → v ≤ 10 → capacity v level ≤ widest w
capacity_as_wide v w level same low high =
    let as_wide : widest v ≡ widest w = ap (λ n. cond {A = ℕ} (nat_lt n 16) 1856 2192) (same Byte) in
    omega (arith, as_wide, (IsSound-of v level (low, high)).few_bits)

-- the fewest bits are no more than those of the best list
pub fewest_bits-below : (v w : ℕ) → SameWidths v w → (bytes : List ℕ)
    → fewest_bits w bytes ≤ cost v (chosen_segments v bytes)
fewest_bits-below v w same bytes =
    omega (
      arith,
      cost-chosen_same v w same bytes,
      fewest_bits-le_cost w (chosen_segments w bytes) bytes (chosen_segments-is w bytes),
    )

-- and they are as many where they fit
fewest_bits-is : (v w : ℕ) → SameWidths v w → (bytes : List ℕ) → length bytes ≤ 657 → fewest_bits w bytes ≤ widest w
    → fewest_bits w bytes ≡ cost v (chosen_segments v bytes)
fewest_bits-is v w same bytes few fits = (Agrees-if_fits w bytes few fits).bits ∙ sym (cost-chosen_same v w same bytes)

-- the segments that fit, and have these bits
pub FitsBits-of : (v w : ℕ) (level : Level) (bits : ℕ) → SameWidths v w → IsVersion v → (bytes : List ℕ)
    → length bytes ≤ 657 → bits ≡ fewest_bits w bytes → bits ≤ capacity v level
    → FitsBits v level bits (chosen_segments v bytes)
FitsBits-of v w level bits same known bytes few fewest fits =
    let wide = capacity_as_wide v w level same known.0 known.1 in
    let value : bits ≡ cost v (chosen_segments v bytes) =
    fewest ∙ fewest_bits-is v w same bytes few (omega (arith, fewest, fits, wide)) in
    record {
      value = value;
      fits = fits;
      short = few_segments v level (chosen_segments v bytes) bytes known (chosen_segments-is v bytes)
          (omega (arith, value, fits));
    }

-- a table of the version w names the best segments of each version v whose counts have the same widths
-- plan_between, the only caller, has the loop's number for v and the highest version for w; one call of `fill`
-- returns the limit and leaves the table
pub NamesBest-of : (v w : ℕ) → SameWidths v w → (bytes : List ℕ) (limit : ℕ) (firsts : Firsts)
    → length bytes ≤ 657 → limit ≤ widest w → NamesFirsts w bytes 0 firsts → NamesBest v bytes limit firsts
NamesBest-of v w same bytes limit firsts few fits named = λ k inside small.
    let rest = drop k bytes in
    let agrees = Agrees-if_fits w rest (omega (arith, length-drop k bytes))
    (omega (arith, fewest_bits-below v w same rest)) in
    let whole = agrees.first (omega (arith, length-drop k bytes)) in
    subst (λ (s : Segment). s ∷ chosen_segments v (drop s.len rest) ≡ chosen_segments v rest)
    (sym (named k (omega arith) inside)) (rw (
      chosen_segments-same v w same (drop (choices_of w rest).best.segment.len rest),
      chosen_segments-same v w same rest,
    ) whole)

-- what a first segment is
pub record IsNamed (version : ℕ) (bytes : List ℕ) (place limit : ℕ) (s : Segment) : Type 0 where
  pub some : 0 < s.len
  pub inside : place + s.len ≤ length bytes
  pub next : chosen_segments version (drop place bytes) ≡ s ∷ chosen_segments version (drop (place + s.len) bytes)
  pub small : cost version (chosen_segments version (drop (place + s.len) bytes)) ≤ limit

pub IsNamed-first : {version : ℕ} {bytes : List ℕ} {limit : ℕ} {firsts : Firsts} {place : ℕ} {s : Segment}
    → place < length bytes → IsTable version bytes limit firsts
    → cost version (chosen_segments version (drop place bytes)) ≤ limit
    → s ≡ first_at firsts place → IsNamed version bytes place limit s
IsNamed-first {version} {bytes} {limit} {firsts} {place} {s} h table fits found =
    let first : s ∷ chosen_segments version (drop s.len (drop place bytes))
    ≡ chosen_segments version (drop place bytes) = rw found (table.named place h fits) in
    let cut : IsSegmentation version (s ∷ chosen_segments version (drop s.len (drop place bytes))) (drop place bytes) =
    subst (λ (l : List Segment). IsSegmentation version l (drop place bytes)) (sym first)
    (chosen_segments-is version (drop place bytes)) in
    let next : chosen_segments version (drop place bytes) ≡ s ∷ chosen_segments version (drop (place + s.len) bytes) =
    rw (drop-drop s.len place bytes) at (sym first) in
    record {
      some = cut.0.some;
      inside = omega (arith, cut.0.inside, length-drop place bytes);
      next = next;
      small = omega (
        arith,
        fits,
        ap (cost version) next,
        sum_by-cons (segment_length version) s (chosen_segments version (drop (place + s.len) bytes)),
      );
    }
