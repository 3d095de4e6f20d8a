-- A text is cut into lines in one way alone. How the lines change where a byte is added at the text's end.
use Rattle.std.proofs.Common.{◌≡◌, ◌≢◌, ℕ, Bool, true, false, eqb, ne_eqb, List, [], ◌∷◌, ◌++◌, refl, ap, subst, sym}
use Rattle.std.proofs.Common.{◌∙◌, ◌-◌, append_assoc, arith, length, length-append, take, cond, zero, suc}
use Rattle.std.proofs.Math.Seq.{take-append_seam}
use Rattle.std.specs.List.{All, AllByRecursion, onto_first, slice_index_or}
use Rattle.std.proofs.lemmas.Grind.{flat_map-append}
use Rattle.std.proofs.lemmas.Bool.{eqb-true, eqb-false}
use Rattle.std.proofs.lemmas.List.{append-nil}
use Rattle.std.proofs.lemmas.List.Concat.{flat_map-cons}
use Rattle.std.proofs.lemmas.List.Elements.{All-nil, All-cons, All-head, All-tail, All-push, All-weaker}
use Rattle.std.proofs.lemmas.List.Splits.{slice_split_none, slice_split_at}
use Rattle.labelcore.specs.Lines.{LF, parts, ended_lines, open_line, with_ends}
use Rattle.labelcore.specs.Lines.{HasNoLF, IsCut, unless_empty, lines}

-- the last part of a list to which one is added, and the parts before it
length-push : (ps : List (List ℕ)) (p : List ℕ) → length (ps ++ p ∷ []) - 1 ≡ length ps
length-push ps p = omega (arith, length-append ps (p ∷ []))

take-push : (ps : List (List ℕ)) (p : List ℕ) → take (length (ps ++ p ∷ []) - 1) (ps ++ p ∷ []) ≡ ps
take-push ps p = ap (λ n. take n (ps ++ p ∷ [])) (length-push ps p) ∙ take-append_seam ps (p ∷ [])

slice_index_or-length : (ps : List (List ℕ)) (p : List ℕ) → slice_index_or (ps ++ p ∷ []) (length ps) [] ≡ p
slice_index_or-length [] p = refl
slice_index_or-length (q ∷ ps) p = slice_index_or-length ps p

slice_index_or-push : (ps : List (List ℕ)) (p : List ℕ)
    → slice_index_or (ps ++ p ∷ []) (length (ps ++ p ∷ []) - 1) [] ≡ p
slice_index_or-push ps p =
    ap (λ n. slice_index_or (ps ++ p ∷ []) n []) (length-push ps p) ∙ slice_index_or-length ps p

no_lf : (bytes : List ℕ) → HasNoLF bytes → All (λ byte. eqb byte LF ≡ false) bytes
no_lf bytes h = All-weaker (λ byte. byte ≢ LF) (λ byte. eqb byte LF ≡ false) (λ byte n. ne_eqb byte LF n) bytes h

-- a text that is cut into these lines and this rest has these parts
parts-cut : (ended : List (List ℕ)) (rest : List ℕ) → All HasNoLF ended → HasNoLF rest
    → parts (with_ends ended ++ rest) ≡ ended ++ rest ∷ []
parts-cut [] rest each last = slice_split_none (λ byte. eqb byte LF) rest (no_lf rest last)
parts-cut (line ∷ ended) rest each last =
    ap parts (ap (λ (xs : List ℕ). xs ++ rest) (flat_map-cons (λ l. l ++ LF ∷ []) line ended)
    ∙ append_assoc (line ++ LF ∷ []) (with_ends ended) rest ∙ append_assoc line (LF ∷ []) (with_ends ended ++ rest))
    ∙ (slice_split_at (λ byte. eqb byte LF) line LF (with_ends ended ++ rest)
    (no_lf line (All-head HasNoLF line ended each)) refl
    ∙ ap (λ (xs : List (List ℕ)). line ∷ xs) (parts-cut ended rest (All-tail HasNoLF line ended each) last))

-- the lines of a cut are the ended lines, and its rest the open line
pub ended_lines-cut : {text : List ℕ} {ended : List (List ℕ)} {rest : List ℕ} → IsCut text ended rest
    → ended_lines text ≡ ended
unfolding ended_lines
ended_lines-cut {text} {ended} {rest} cut = ap (λ t. take (length (parts t) - 1) (parts t)) cut.whole
    ∙ (ap (λ ps. take (length ps - 1) ps) (parts-cut ended rest cut.each cut.rest_open) ∙ take-push ended rest)

pub open_line-cut : {text : List ℕ} {ended : List (List ℕ)} {rest : List ℕ} → IsCut text ended rest
    → open_line text ≡ rest
unfolding open_line
open_line-cut {text} {ended} {rest} cut = ap (λ t. slice_index_or (parts t) (length (parts t) - 1) []) cut.whole
    ∙ (ap (λ ps. slice_index_or ps (length ps - 1) []) (parts-cut ended rest cut.each cut.rest_open)
    ∙ slice_index_or-push ended rest)

-- some cut of a text
pub record SomeCut (text : List ℕ) : Type 0 where
  pub ended : List (List ℕ)
  pub rest : List ℕ
  pub cut : IsCut text ended rest

-- a byte before a text that is cut
cut_before : (byte : ℕ) (is_lf : Bool) → eqb byte LF ≡ is_lf → (text : List ℕ) (ended : List (List ℕ)) (rest : List ℕ)
    → IsCut text ended rest → SomeCut (byte ∷ text)
cut_before byte true e text ended rest cut = record {
  ended = [] ∷ ended;
  rest = rest;
  cut = record {
    whole = ap (λ (b : ℕ). b ∷ text) (eqb-true byte LF e) ∙ ap (λ (xs : List ℕ). LF ∷ xs) cut.whole;
    each = All-cons HasNoLF [] ended (All-nil (λ b. b ≢ LF)) cut.each;
    rest_open = cut.rest_open;
  };
}
cut_before byte false e text [] rest cut = record {
  ended = [];
  rest = byte ∷ rest;
  cut = record {
    whole = ap (λ (xs : List ℕ). byte ∷ xs) cut.whole;
    each = All-nil HasNoLF;
    rest_open = All-cons (λ b. b ≢ LF) byte rest (eqb-false byte LF e) cut.rest_open;
  };
}
cut_before byte false e text (line ∷ ended) rest cut = record {
  ended = (byte ∷ line) ∷ ended;
  rest = rest;
  cut = record {
    whole = ap (λ (xs : List ℕ). byte ∷ xs) cut.whole;
    each = All-cons HasNoLF (byte ∷ line) ended (All-cons (λ b. b ≢ LF) byte line (eqb-false byte LF e)
        (All-head HasNoLF line ended cut.each)) (All-tail HasNoLF line ended cut.each);
    rest_open = cut.rest_open;
  };
}

-- each text has a cut
some_cut : (text : List ℕ) → SomeCut text
some_cut [] = record {
  ended = [];
  rest = [];
  cut = record { whole = refl; each = All-nil HasNoLF; rest_open = All-nil (λ b. b ≢ LF) };
}
some_cut (byte ∷ text) = let later = some_cut text in
    cut_before byte (eqb byte LF) refl text later.ended later.rest later.cut

-- the ended lines and the open line are a cut of the text
pub IsCut-ended_lines : (text : List ℕ) → IsCut text (ended_lines text) (open_line text)
IsCut-ended_lines text =
    let some = some_cut text in
    subst (λ (ended : List (List ℕ)). IsCut text ended (open_line text)) (sym (ended_lines-cut some.cut))
    (subst (λ (rest : List ℕ). IsCut text some.ended rest) (sym (open_line-cut some.cut)) some.cut)

-- a LF ends the open line
cut_push_lf : (text : List ℕ) → IsCut (text ++ LF ∷ []) (ended_lines text ++ open_line text ∷ []) []
cut_push_lf text = let cut = IsCut-ended_lines text in record {
  whole =
      ap (λ (xs : List ℕ). xs ++ LF ∷ []) cut.whole
      ∙ (append_assoc (with_ends (ended_lines text)) (open_line text) (LF ∷ [])
      ∙ sym (append-nil (with_ends (ended_lines text ++ open_line text ∷ []))
      ∙ (flat_map-append (λ (line : List ℕ). line ++ LF ∷ []) (ended_lines text) (open_line text ∷ [])
      ∙ ap (λ (xs : List ℕ). with_ends (ended_lines text) ++ xs) (append-nil (open_line text ++ LF ∷ [])))));
  each = All-push HasNoLF (ended_lines text) (open_line text) cut.each cut.rest_open;
  rest_open = All-nil (λ b. b ≢ LF);
}

-- any other byte is added to it
cut_push_other : (text : List ℕ) (byte : ℕ) → byte ≢ LF
    → IsCut (text ++ byte ∷ []) (ended_lines text) (open_line text ++ byte ∷ [])
cut_push_other text byte other = let cut = IsCut-ended_lines text in record {
  whole = ap (λ (xs : List ℕ). xs ++ byte ∷ []) cut.whole
      ∙ append_assoc (with_ends (ended_lines text)) (open_line text) (byte ∷ []);
  each = cut.each;
  rest_open = All-push (λ b. b ≢ LF) (open_line text) byte cut.rest_open other;
}

pub ended_lines-push_lf : (text : List ℕ) → ended_lines (text ++ LF ∷ []) ≡ ended_lines text ++ open_line text ∷ []
ended_lines-push_lf text = ended_lines-cut (cut_push_lf text)

pub open_line-push_lf : (text : List ℕ) → open_line (text ++ LF ∷ []) ≡ []
open_line-push_lf text = open_line-cut (cut_push_lf text)

pub ended_lines-push_other : (text : List ℕ) (byte : ℕ) → byte ≢ LF → ended_lines (text ++ byte ∷ []) ≡ ended_lines text
ended_lines-push_other text byte other = ended_lines-cut (cut_push_other text byte other)

-- some lines that a piece ends
pub record SomeAdded (text piece : List ℕ) : Type 0 where
  pub added : List (List ℕ)
  pub grown : ended_lines (text ++ piece) ≡ ended_lines text ++ added

some_added_byte : (text : List ℕ) (byte : ℕ) (is_lf : Bool) → eqb byte LF ≡ is_lf → SomeAdded text (byte ∷ [])
some_added_byte text byte true e = record {
  added = open_line text ∷ [];
  grown = ap (λ (b : ℕ). ended_lines (text ++ b ∷ [])) (eqb-true byte LF e) ∙ ended_lines-push_lf text;
}
some_added_byte text byte false e = record {
  added = [];
  grown = ended_lines-push_other text byte (eqb-false byte LF e) ∙ sym (append-nil (ended_lines text));
}

-- the ended lines of a longer text begin with those of the text
pub some_added : (text piece : List ℕ) → SomeAdded text piece
some_added text [] = record {
  added = [];
  grown = ap ended_lines (append-nil text)
      ∙ sym (append-nil (ended_lines text));
}
some_added text (byte ∷ piece) =
    let first = some_added_byte text byte (eqb byte LF) refl in
    let later = some_added (text ++ byte ∷ []) piece in
    record {
      added = first.added ++ later.added;
      grown = ap ended_lines (sym (append_assoc text (byte ∷ []) piece)) ∙ (later.grown
          ∙ (ap (λ (ls : List (List ℕ)). ls ++ later.added) first.grown
          ∙ append_assoc (ended_lines text) first.added later.added));
    }

-- what is true of each byte of a text is true of each byte of its lines
module _ (P : ℕ → Type 0) where
  abbrev pub AllOf : List (List ℕ) → Type 0
  AllOf ps = AllByRecursion (AllByRecursion P) ps

  AllOf-onto_first : (byte : ℕ) (ps : List (List ℕ)) → P byte → AllOf ps → AllOf (onto_first byte ps)
  AllOf-onto_first byte [] h w = ((h, tt), tt)
  AllOf-onto_first byte (p ∷ ps) h w = ((h, w.0), w.1)

  AllOf-cut : (is_lf : Bool) (byte : ℕ) (ps : List (List ℕ)) → P byte → AllOf ps
      → AllOf (cond is_lf ([] ∷ ps) (onto_first byte ps))
  AllOf-cut true byte ps h w = (tt, w)
  AllOf-cut false byte ps h w = AllOf-onto_first byte ps h w

  AllOf-parts : (text : List ℕ) → AllByRecursion P text → AllOf (parts text)
  AllOf-parts [] w = (tt, tt)
  AllOf-parts (byte ∷ text) w = AllOf-cut (eqb byte LF) byte (parts text) w.0 (AllOf-parts text w.1)

  AllOf-take : (n : ℕ) (ps : List (List ℕ)) → AllOf ps → AllOf (take n ps)
  AllOf-take zero ps w = tt
  AllOf-take (suc n) [] w = tt
  AllOf-take (suc n) (p ∷ ps) w = (w.0, AllOf-take n ps w.1)

  AllOf-at : (ps : List (List ℕ)) (n : ℕ) → AllOf ps → AllByRecursion P (slice_index_or ps n [])
  AllOf-at [] n w = tt
  AllOf-at (p ∷ ps) zero w = w.0
  AllOf-at (p ∷ ps) (suc n) w = AllOf-at ps n w.1

  AllOf-and_last : (ps : List (List ℕ)) (p : List ℕ) → AllOf ps → AllByRecursion P p → AllOf (ps ++ unless_empty p)
  AllOf-and_last [] [] w h = tt
  AllOf-and_last [] (byte ∷ p) w h = (h, tt)
  AllOf-and_last (q ∷ ps) p w h = (w.0, AllOf-and_last ps p w.1 h)

  pub AllOf-lines : (text : List ℕ) → AllByRecursion P text → AllOf (lines text)
  unfolding lines ended_lines open_line
  AllOf-lines text w =
      let ps = parts text in
      let each = AllOf-parts text w in
      AllOf-and_last (take (length ps - 1) ps) (slice_index_or ps (length ps - 1) [])
      (AllOf-take (length ps - 1) ps each) (AllOf-at ps (length ps - 1) each)
