-- Texts of whole lines.
use Rattle.std.proofs.Common.{◌≡◌, ℕ, Bool, true, not, ◌==◌, List, [], ◌∷◌, ◌++◌, flat_map, refl, ap, ◌∙◌, append_assoc}
use Rattle.std.specs.List.{list_all, slice_split}
use Rattle.std.proofs.lemmas.Bool.{and_parts, not-true}
use Rattle.std.proofs.lemmas.List.Splits.{slice_split_at}
use Rattle.std.proofs.lemmas.List.Sums.{AllPass-from_list_all}

-- bytes without a line feed
abbrev pub has_no_line_feed : List ℕ → Bool
has_no_line_feed bytes = list_all (λ b. not (b == 10)) bytes

-- lines, each with its line feed
abbrev pub with_ends : List (List ℕ) → List ℕ
with_ends ls = flat_map (λ line. line ++ 10 ∷ []) ls

-- the parts of such a text are the lines, and an empty one
pub slice_split-with_ends : (ls : List (List ℕ)) → list_all has_no_line_feed ls ≡ true
    → slice_split (λ b. b == 10) (with_ends ls) ≡ ls ++ [] ∷ []
slice_split-with_ends [] none = refl
slice_split-with_ends (line ∷ ls) none =
    let parts = and_parts (has_no_line_feed line) (list_all has_no_line_feed ls) none in
    ap (slice_split (λ b. b == 10)) (append_assoc line (10 ∷ []) (with_ends ls))
    ∙ slice_split_at (λ b. b == 10) line 10 (with_ends ls) (λ k d inside. not-true _
    (AllPass-from_list_all (λ b. not (b == 10)) line parts.0 k d inside)) refl
    ∙ ap (λ rest. line ∷ rest) (slice_split-with_ends ls parts.1)
