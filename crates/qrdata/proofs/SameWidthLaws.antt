-- In versions whose character counts have the same bits the best segments are the same.
use Rattle.std.proofs.Common.{◌≡◌, ℕ, zero, suc, ◌+◌, ◌^◌, List, [], ◌∷◌, map, drop, length, refl, sum_by, take}
use Rattle.std.specs.Prelude.{filter, nat_lt, ◌&&◌}
use Rattle.std.specs.List.{best_of, list_all}
use Rattle.qrdata.specs.declared.mode.Segment.{Segment}
use Rattle.qrdata.specs.Fewest.{best_within, candidates, cheapest, chosen_segments, first_segments}
use Rattle.qrdata.specs.Segments.{cost, has_character, payload_length}
use Rattle.qrdata.specs.Private.SmallestPlan.{SameWidths}

cost-same : (v w : ℕ) → SameWidths v w → (segments : List Segment) → cost v segments ≡ cost w segments
cost-same v w same segments = λ i. sum_by (λ s. 4 + same s.mode i + payload_length s.mode s.len) segments

first_segments-same : (v w : ℕ) → SameWidths v w → (bytes : List ℕ) → first_segments v bytes ≡ first_segments w bytes
unfolding first_segments
first_segments-same v w same bytes = λ i. filter (λ (s : Segment).
    list_all (has_character s.mode) (take s.len bytes) && nat_lt s.len (2 ^ same s.mode i)) (candidates (length bytes))

cheapest-same : (v w : ℕ) → SameWidths v w → (lists : List (List Segment)) → cheapest v lists ≡ cheapest w lists
cheapest-same v w same [] = refl
cheapest-same v w same (segments ∷ lists) =
    λ i. best_of (λ s t. nat_lt (cost-same v w same s i) (cost-same v w same t i)) segments lists

best_within-same_widths : (v w : ℕ) → SameWidths v w → (n : ℕ) (bytes : List ℕ)
    → best_within v n bytes ≡ best_within w n bytes
unfolding best_within
best_within-same_widths v w same zero bytes = refl
best_within-same_widths v w same (suc n) bytes = λ i.
    cheapest-same v w same (map (λ (s : Segment). s ∷ best_within-same_widths v w same n (drop s.len bytes) i)
    (first_segments-same v w same bytes i)) i

pub chosen_segments-same : (v w : ℕ) → SameWidths v w → (bytes : List ℕ)
    → chosen_segments v bytes ≡ chosen_segments w bytes
unfolding chosen_segments
chosen_segments-same v w same bytes = best_within-same_widths v w same (length bytes) bytes

-- the costs of the best segments are the same
pub cost-chosen_same : (v w : ℕ) → SameWidths v w → (bytes : List ℕ)
    → cost v (chosen_segments v bytes) ≡ cost w (chosen_segments w bytes)
cost-chosen_same v w same bytes = λ i. cost-same v w same (chosen_segments-same v w same bytes i) i
