-- What stands up to the last line feed of a text that begins with lines.
use Rattle.std.proofs.Common.{◌≡◌, ℕ, List, [], ◌∷◌, ◌++◌, ap, refl, sym, ◌∙◌, append_assoc}
use Rattle.std.proofs.lemmas.Grind.{flat_map-append}
use Rattle.std.proofs.lemmas.List.{append-nil}
use Rattle.std.proofs.lemmas.List.Elements.{All-push, All-append}
use Rattle.labelcore.specs.Lines.{ended_lines, ended_text, open_line, HasNoLF, IsCut}
use Rattle.labelcore.proofs.Laws.LinesLaws.{IsCut-ended_lines, ended_lines-cut}
use Rattle.picture.proofs.Laws.LineLaws.{with_ends}

-- the lines of a text, and one more, and those of what follows it
with_ends-between : (before after : List (List ℕ)) (line : List ℕ) → with_ends ((before ++ line ∷ []) ++ after)
    ≡ with_ends before ++ (line ++ 10 ∷ with_ends after)
with_ends-between before after line =
    flat_map-append (λ (l : List ℕ). l ++ 10 ∷ []) (before ++ line ∷ []) after
    ∙ ap (λ (xs : List ℕ). xs ++ with_ends after) (flat_map-append (λ (l : List ℕ). l ++ 10 ∷ []) before (line ∷ []))
    ∙ simp (append_assoc, append-nil)

-- a text, a line feed, and what follows
cut-line : (text more : List ℕ)
    → IsCut (text ++ 10 ∷ more) ((ended_lines text ++ open_line text ∷ []) ++ ended_lines more) (open_line more)
cut-line text more =
    let here = IsCut-ended_lines text in
    let later = IsCut-ended_lines more in
    record {
      whole =
          ap (λ (xs : List ℕ). xs ++ 10 ∷ more) here.whole
          ∙ ap (λ (xs : List ℕ). (with_ends (ended_lines text) ++ open_line text) ++ 10 ∷ xs) later.whole
          ∙ (grouped (with_ends (ended_lines text)) (open_line text) (with_ends (ended_lines more)) (open_line more)
          ∙ sym (ap (λ (xs : List ℕ). xs ++ open_line more)
          (with_ends-between (ended_lines text) (ended_lines more) (open_line text))));
      each = All-append HasNoLF (ended_lines text ++ open_line text ∷ []) (ended_lines more)
          (All-push HasNoLF (ended_lines text) (open_line text) here.each here.rest_open) later.each;
      rest_open = later.rest_open;
    } where
      grouped : (a b c d : List ℕ) → (a ++ b) ++ 10 ∷ (c ++ d) ≡ (a ++ (b ++ 10 ∷ c)) ++ d
      grouped a b c d = simp append_assoc

-- up to the last line feed, a line stands there whole
ended_text-line : (line more : List ℕ) → ended_text (line ++ 10 ∷ more) ≡ line ++ 10 ∷ ended_text more
unfolding ended_text
ended_text-line line more =
    ap with_ends (ended_lines-cut (cut-line line more))
    ∙ (with_ends-between (ended_lines line) (ended_lines more) (open_line line)
    ∙ (sym (append_assoc (with_ends (ended_lines line)) (open_line line) (10 ∷ with_ends (ended_lines more)))
    ∙ ap (λ (xs : List ℕ). xs ++ 10 ∷ with_ends (ended_lines more)) (sym (IsCut-ended_lines line).whole)))

-- a line, the lines after it, and what follows them
pub grouped_line : (line more begun : List ℕ) → ((line ++ 10 ∷ []) ++ more) ++ begun ≡ line ++ 10 ∷ (more ++ begun)
grouped_line line more begun = simp append_assoc

-- and so do lines, each with its line feed
pub ended_text-with_ends : (ls : List (List ℕ)) (more : List ℕ)
    → ended_text (with_ends ls ++ more) ≡ with_ends ls ++ ended_text more
ended_text-with_ends [] more = refl
ended_text-with_ends (line ∷ ls) more =
    ap ended_text (grouped_line line (with_ends ls) more)
    ∙ (ended_text-line line (with_ends ls ++ more)
    ∙ (ap (λ (xs : List ℕ). line ++ 10 ∷ xs) (ended_text-with_ends ls more)
    ∙ sym (grouped_line line (with_ends ls) (ended_text more))))
