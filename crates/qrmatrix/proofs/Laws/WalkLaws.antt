-- The ranks of the free modules in the order of reading are 0, 1, 2, ..
use mathlib.Core.Path.{fun_ext}
use Rattle.std.proofs.Common.{◌≡◌, ℕ, zero, suc, ◌+◌, ◌-◌, ◌*◌, ◌≤◌, refl, ap, Bool, true, false, cond, arith}
use Rattle.std.proofs.Common.{List, [], ◌∷◌, length, add-one, add-zero, ◌∙◌}
use Rattle.std.specs.Prelude.{map}
use Rattle.std.specs.List.{range_with_len, list_all, filter}
use Rattle.std.proofs.lemmas.Bool.{and_parts}
use Rattle.std.proofs.lemmas.Bool.Decides.{nat_tests}
use Rattle.qrmatrix.specs.Private.Counting.{one_if}
use Rattle.qrdata.specs.Versions.{side_of}
use Rattle.qrmatrix.specs.Functions.{is_free}
use Rattle.qrmatrix.specs.Placement.{key, rank}
use Rattle.qrmatrix.specs.Reading.{walk}
use Rattle.qrmatrix.proofs.Laws.VersionLaws.{filtered, is_walked, keys, room, walked}
use Rattle.qrmatrix.specs.Private.Placing.{free_below}
use Rattle.qrmatrix.proofs.Laws.RankLaws.{free_below_more, free_below_none, rank-free_below}

-- a place before a list whose numbers count up from j: whether it is kept or not, the numbers count up from i
-- the proof is by cases of b, so b, r, i and j are values; `along`, the only caller, has long terms for them:
-- is_free, free_below of a key, and two counts of free places
step : (b : Bool) (p : ℕ × ℕ) (ps : List (ℕ × ℕ)) (r : ℕ × ℕ → ℕ) (i j : ℕ) → r p ≡ i → j ≡ i + one_if b
    → map r ps ≡ range_with_len j (length ps)
    → map r (cond b (p ∷ ps) ps) ≡ range_with_len i (length (cond b (p ∷ ps) ps))
step true p ps r i j e n h = let k = rw n at h in cc
step false p ps r i j e n h = let k = rw (n, add-zero) at h in k

module _ (v : ℕ) (l : 1 ≤ v) (h : v ≤ 10) where
  along : (ps : List (ℕ × ℕ)) (a m : ℕ) → map (λ (p : ℕ × ℕ). key (side_of v) p.0 p.1) ps ≡ range_with_len a m
      → list_all (is_walked (side_of v)) ps ≡ true
      → map (λ (p : ℕ × ℕ). free_below v (key (side_of v) p.0 p.1)) (filter (λ (p : ℕ × ℕ). is_free v p.0 p.1) ps)
      ≡ range_with_len (free_below v a) (length (filter (λ (p : ℕ × ℕ). is_free v p.0 p.1) ps))
  along [] a m e t = refl
  along (p ∷ ps) a zero e t = cc
  along (p ∷ ps) a (suc m) e t =
      let parts = and_parts (is_walked (side_of v) p) (list_all (is_walked (side_of v)) ps) t in
      let inside = parts.0 in
      let here : key (side_of v) p.0 p.1 ≡ a = cc in
      let there : map (λ (p : ℕ × ℕ). key (side_of v) p.0 p.1) ps ≡ range_with_len (a + 1) m = cc in
      let more = free_below_more v l h p.0 p.1 a (grind (arith, nat_tests)) (grind (arith, nat_tests))
      (λ e. grind (arith, nat_tests)) here in
      let next : free_below v (a + 1) ≡ free_below v a + one_if (is_free v p.0 p.1) = rw add-one more in
      step (is_free v p.0 p.1) p (filter (λ (p : ℕ × ℕ). is_free v p.0 p.1) ps)
      (λ (p : ℕ × ℕ). free_below v (key (side_of v) p.0 p.1)) (free_below v a) (free_below v (a + 1))
      (ap (free_below v) here) next (along ps (a + 1) m there parts.1)

  pub walk_ranks : map (λ (p : ℕ × ℕ). rank v p.0 p.1) (filter (λ (p : ℕ × ℕ). is_free v p.0 p.1) (walk (side_of v)))
      ≡ range_with_len 0 (room v)
  walk_ranks =
      let ranks = fun_ext (λ (p : ℕ × ℕ). rank-free_below v p.0 p.1) in
      let a = along (walk (side_of v)) 0 (side_of v * (side_of v - 1)) (keys v l h) (walked v l h) in
      let b = rw (free_below_none v, filtered v l h) at a in
      ap (λ f. map f (filter (λ (p : ℕ × ℕ). is_free v p.0 p.1) (walk (side_of v)))) ranks ∙ b
