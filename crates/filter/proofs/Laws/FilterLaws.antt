-- What more lines add to the script and its status, and to a filter's state.
use Rattle.filter.proofs.Laws.Words.{◌≡◌, ◌≢◌, ℕ, ◌+◌, Bool, ◌||◌, List, [], ◌∷◌, ◌++◌, length, append_assoc, refl, ap, sym}
use Rattle.filter.proofs.Laws.Words.{◌∙◌, arith, add-zero, zero-add, if◌then◌else◌, ◌-◌, ◌^◌, min, take, Result}
use Rattle.filter.proofs.Laws.Words.{length-take, or-false, append-nil, LF, lines, ended_lines, open_line, unless_empty}
use Rattle.filter.proofs.Laws.Words.{HasNoLF, IsCut, with_ends, Options, Event, of_line, outcome, events_after}
use Rattle.filter.proofs.Laws.Words.{ended_script, script, flushes, is_refusal, line_number, status_of, Clean, Refused}
use Rattle.filter.proofs.Laws.Words.{All-append, held_line, line_limit, FilterState, IsAfter, Sends, taken, Stops, Took}
use Rattle.filter.proofs.Laws.Words.{RunFault, MatchResult, All, All-from_get_or, Fits, get_or, w8, ◌*◌, ◌<◌, ◌≤◌}
use Rattle.std.proofs.Math.Nat.{mul-le-mul_right}
use Rattle.std.specs.List.{list_any}
use Rattle.std.proofs.lemmas.List.Folds.{list_any-append}
use Rattle.labelcore.proofs.Laws.LinesLaws.{ended_lines-push_lf, some_added}
use Rattle.labelcore.proofs.Laws.LinesLaws.{IsCut-ended_lines, ended_lines-cut, open_line-cut}
use Rattle.filter.specs.Private.{worst}

-- the elements of a slice of bytes
pub are_bytes : (bytes : List ℕ) → ((i : ℕ) → Fits w8 (get_or bytes i 0)) → All (λ b. b < 256) bytes
are_bytes bytes fits = All-from_get_or (λ b. b < 256) bytes 0 (λ i within. omega (arith, fits i))

-- a side of a picture, enlarged
pub enlarged : (side scale : ℕ) → side ≤ 1815 → scale ≤ 8 → side * scale ≤ 65535
enlarged side scale small low = let most : side * scale ≤ 1815 * scale = mul-le-mul_right scale small in omega arith

-- the status of two scripts
worst_of_two : (a b : Bool) → (if a || b then Refused else Clean)
    ≡ worst (if a then Refused else Clean) (if b then Refused else Clean)
worst_of_two a b = grind arith

pub status_of-append : (xs ys : List Event) → status_of (xs ++ ys) ≡ worst (status_of xs) (status_of ys)
unfolding status_of
status_of-append xs ys = ap (λ (b : Bool). if b then Refused else Clean) (list_any-append is_refusal xs ys)
    ∙ worst_of_two (list_any is_refusal xs) (list_any is_refusal ys)

-- a script's last event has no part in its status
pub status_of-flushes : (xs : List Event) → status_of (xs ++ flushes ∷ []) ≡ status_of xs
unfolding status_of
status_of-flushes xs = ap (λ (b : Bool). if b then Refused else Clean)
    (list_any-append is_refusal xs (flushes ∷ []) ∙ or-false (list_any is_refusal xs))

module _ (options : Options) where
  -- the events of lines, and of lines after them
  pub events_after-append : (n : ℕ) (xs ys : List (List ℕ))
      → events_after options n (xs ++ ys) ≡ events_after options n xs ++ events_after options (n + length xs) ys
  unfolding events_after
  events_after-append n [] ys = ap (λ (k : ℕ). events_after options k ys) (sym (add-zero n))
  events_after-append n (x ∷ xs) ys =
      let k : (n + 1) + length xs ≡ n + length (x ∷ xs) = omega arith in
      ap (λ (es : List Event). of_line (line_number n) (outcome options x) ∷ es)
      (events_after-append (n + 1) xs ys
      ∙ ap (λ (j : ℕ). events_after options (n + 1) xs ++ events_after options j ys) k)

  pub ended_script-nil : ended_script options [] ≡ []
  unfolding ended_lines events_after
  ended_script-nil = refl

  -- what is sent of the lines that more bytes end
  pub ended_script-more : (text piece : List ℕ) → (more : List Event)
      × (ended_script options (text ++ piece) ≡ ended_script options text ++ more)
  ended_script-more text piece = let s = some_added text piece in (
    events_after options (0 + length (ended_lines text)) s.added,
    ap (events_after options 0) s.grown ∙ events_after-append 0 (ended_lines text) s.added,
  )

  -- a LF ends the open line
  pub ended_script-lf : (text : List ℕ) → ended_script options (text ++ LF ∷ [])
      ≡ ended_script options text
      ++ of_line (line_number (length (ended_lines text))) (outcome options (open_line text)) ∷ []
  unfolding events_after
  ended_script-lf text = ap (events_after options 0) (ended_lines-push_lf text)
      ∙ (events_after-append 0 (ended_lines text) (open_line text ∷ [])
      ∙ ap (λ (n : ℕ). ended_script options text ++ of_line (line_number n) (outcome options (open_line text)) ∷ [])
      (zero-add (length (ended_lines text))))

  -- the whole script: the open line is empty, or it ends as if a LF came
  pub script-ended : (text : List ℕ) → open_line text ≡ []
      → script options text ≡ ended_script options text ++ flushes ∷ []
  unfolding lines
  script-ended text none = rw (none, append-nil (ended_lines text)) refl

  pub script-open : (text : List ℕ) → open_line text ≢ []
      → script options text ≡ ended_script options (text ++ LF ∷ []) ++ flushes ∷ []
  unfolding lines
  script-open text some = rw (ended_lines-push_lf text, alone (open_line text) some) refl where
    alone : (line : List ℕ) → line ≢ [] → unless_empty line ≡ line ∷ []
    alone [] some = absurd (some refl)
    alone (byte ∷ bytes) some = refl

  -- after the ended lines there is an event, be it the last
  pub some_later : (text : List ℕ) → (event : Event) × (later : List Event)
      × (script options text ≡ ended_script options text ++ event ∷ later)
  some_later text = by_rest (open_line text) refl where
    by_rest : (rest : List ℕ) → open_line text ≡ rest → (event : Event) × (later : List Event)
        × (script options text ≡ ended_script options text ++ event ∷ later)
    by_rest [] is = (flushes, [], script-ended text is)
    by_rest (byte ∷ bytes) is =
        let line = of_line (line_number (length (ended_lines text))) (outcome options (open_line text)) in (
          line,
          flushes ∷ [],
          script-open text (λ none. cc) ∙ (ap (λ (es : List Event). es ++ flushes ∷ [])
              (ended_script-lf text) ∙ append_assoc (ended_script options text) (line ∷ []) (flushes ∷ [])),
        )

-- bytes of the open line
cut_more : (text bytes : List ℕ) → HasNoLF bytes → IsCut (text ++ bytes) (ended_lines text) (open_line text ++ bytes)
cut_more text bytes no_lf = let cut = IsCut-ended_lines text in record {
  whole = ap (λ (xs : List ℕ). xs ++ bytes) cut.whole
      ∙ append_assoc (with_ends (ended_lines text)) (open_line text) bytes;
  each = cut.each;
  rest_open = All-append (λ b. b ≢ LF) (open_line text) bytes cut.rest_open no_lf;
}

pub ended_lines-more : (text bytes : List ℕ) → HasNoLF bytes → ended_lines (text ++ bytes) ≡ ended_lines text
ended_lines-more text bytes no_lf = ended_lines-cut (cut_more text bytes no_lf)

pub open_line-more : (text bytes : List ℕ) → HasNoLF bytes → open_line (text ++ bytes) ≡ open_line text ++ bytes
open_line-more text bytes no_lf = open_line-cut (cut_more text bytes no_lf)

module _ (options : Options) (state : FilterState) (text : List ℕ) (at : IsAfter options state text) where
  -- the number of the line that ends
  pub line_number-counts : (n : ℕ) → n ≡ min (state.line_count + 1) (2 ^ 64 - 1)
      → n ≡ line_number (length (ended_lines text))
  line_number-counts n e = omega (arith, at.line_count)

  -- what holds of the line that is held, whichever it is, holds of the open line
  pub of_open_line : (P : Options → List ℕ → ℕ → Type 0) (n : ℕ) → n ≡ min (state.line_count + 1) (2 ^ 64 - 1)
      → ((line : List ℕ) → state.line ≡ held_line line → P state.options line n)
      → P options (open_line text) (line_number (length (ended_lines text)))
  of_open_line P n counts each =
      let o : state.options ≡ options = at.options_are in
      let m = line_number-counts n counts in
      rw (o, m) at (each (open_line text) at.line)

  -- what is sent of the line that is held ends the open line
  pub Sends-line : {T : Type 0} {out err : List ℕ → Type 0} (r : Result T RunFault) (n : ℕ)
      → n ≡ min (state.line_count + 1) (2 ^ 64 - 1) → ((line : List ℕ) → state.line ≡ held_line line → MatchResult r
      (λ _. Took state.options.run (taken out err) (of_line n (outcome state.options line) ∷ []))
      (Stops state.options.run (taken out err) (of_line n (outcome state.options line) ∷ [])))
      → Sends {T = T} options.run (taken out err) (ended_script options text) (ended_script options (text ++ LF ∷ [])) r
  Sends-line {out = out} {err = err} r n counts each = record {
    added = of_line (line_number (length (ended_lines text))) (outcome options (open_line text)) ∷ [];
    grown = ended_script-lf options text;
    sends = of_open_line (λ own line m. let events = of_line m (outcome own line) ∷ [] in
        MatchResult r (λ _. Took own.run (taken out err) events) (Stops own.run (taken out err) events)) n counts each;
  }

-- what is held of a line is empty where the line is
pub no_byte : (line : List ℕ) → take line_limit line ≡ [] → line ≡ []
unfolding line_limit
no_byte [] e = refl
no_byte (byte ∷ bytes) e = absurd (omega (arith, ap length e, length-take line_limit (byte ∷ bytes)))
