-- Streams of files, cut again.
use Rattle.std.proofs.Common.{◌≡◌, ℕ, Bool, true, false, not, ◌==◌, List, [], ◌∷◌, ◌++◌, map, refl, ap, sym, ◌∙◌}
use Rattle.std.proofs.Common.{flat_map, append_assoc, if◌then◌else◌, codes, take, get_or, subst}
use Rattle.std.proofs.Common.{arith, length, length-append}
use Rattle.std.specs.Prelude.{All, ◌≢◌}
use Rattle.std.specs.List.{list_all, onto_first, concat, AllByRecursion}
use Rattle.std.proofs.lemmas.List.{append-nil, map-append}
use Rattle.std.proofs.lemmas.List.Folds.{list_all-append}
use Rattle.std.proofs.lemmas.Grind.{flat_map-append}
use Rattle.std.proofs.lemmas.Bool.{and_parts, not-true}
use Rattle.std.proofs.lemmas.List.Elements.{recursion_from_All}
use Rattle.labelcore.specs.Lines.{ended_lines, ended_text, open_line}
use Rattle.labelcore.proofs.Laws.LinesLaws.{IsCut-ended_lines}
use Rattle.picture.specs.Picture.{Picture}
use Rattle.picture.specs.ReadingLaws.{IsDrawable, FilesAreTexts}
use Rattle.picture.specs.Text.{pbm_text}
use Rattle.picture.specs.Reading.{cut_between, files, is_magic, pbm_files, whole_lines}
use Rattle.picture.proofs.Laws.EndedLaws.{ended_text-with_ends, grouped_line}
use Rattle.picture.proofs.Laws.LineLaws.{has_no_line_feed, with_ends}
use Rattle.picture.proofs.Laws.PbmLineLaws.{pbm_lines, pbm_text-lines, no_line_feeds, no_more_magic}

-- parts with an element before them: it is a part of its own, or the front of the first
abbrev onto_parts : {X : Type 0} → Bool → X → List (List X) → List (List X)
onto_parts is_cut x parts = if is_cut then (x ∷ []) ∷ parts else onto_first x parts

onto_parts-nil : {X : Type 0} (b : Bool) (x : X) → onto_parts b x [] ≡ (x ∷ []) ∷ []
onto_parts-nil true x = refl
onto_parts-nil false x = refl

-- the parts of a list, each but the last ended by an element that passes
abbrev pub cut_after : {X : Type 0} → (X → Bool) → List X → List (List X)
cut_after ends xs = cut_between (λ x next. ends x) xs

cut_after-cons : {X : Type 0} (ends : X → Bool) (x : X) (xs : List X)
    → cut_after ends (x ∷ xs) ≡ onto_parts (ends x) x (cut_after ends xs)
cut_after-cons ends x [] = sym (onto_parts-nil (ends x) x)
cut_after-cons ends x (y ∷ xs) = refl

-- the part up to the first element that passes
pub cut_after-part : {X : Type 0} (ends : X → Bool) (xs : List X) (y : X) (more : List X)
    → list_all (λ x. not (ends x)) xs ≡ true → ends y ≡ true
    → cut_after ends (xs ++ y ∷ more) ≡ (xs ++ y ∷ []) ∷ cut_after ends more
cut_after-part ends [] y more none e = cut_after-cons ends y more ∙ rw e refl
cut_after-part ends (x ∷ xs) y more none e =
    let parts = and_parts (not (ends x)) (list_all (λ z. not (ends z)) xs) none in
    cut_after-cons ends x (xs ++ y ∷ more)
    ∙ rw (cut_after-part ends xs y more parts.1 e, not-true (ends x) parts.0) refl

-- the parts of a list, each but the first begun by an element that passes
abbrev cut_before : {X : Type 0} → (X → Bool) → List X → List (List X)
cut_before begins xs = cut_between (λ x next. begins next) xs

-- the first part, where an element that passes follows it or nothing does
cut_before-part : {X : Type 0} (begins : X → Bool) (x : X) (xs more : List X)
    → list_all (λ z. not (begins z)) xs ≡ true → list_all begins (take 1 more) ≡ true
    → cut_before begins (x ∷ xs ++ more) ≡ (x ∷ xs) ∷ cut_before begins more
cut_before-part begins x [] [] none next = refl
cut_before-part begins x [] (y ∷ more) none next = rw (and_parts (begins y) true next).0 refl
cut_before-part begins x (z ∷ xs) more none next =
    let parts = and_parts (not (begins z)) (list_all (λ z. not (begins z)) xs) none in
    rw (cut_before-part begins z xs more parts.1 next, not-true (begins z) parts.0) refl

-- lines, each with its line feed
abbrev pub ended : List (List ℕ) → List (List ℕ)
ended ls = map (λ line. line ++ 10 ∷ []) ls

concat-ended : (ls : List (List ℕ)) → concat (ended ls) ≡ with_ends ls
concat-ended [] = refl
concat-ended (line ∷ ls) = ap (λ (rest : List ℕ). (line ++ 10 ∷ []) ++ rest) (concat-ended ls)

-- the lines of a text and those of what follows it
cut_after-lines_and : (ls : List (List ℕ)) (begun : List ℕ) → list_all has_no_line_feed ls ≡ true
    → cut_after (λ b. b == 10) (with_ends ls ++ begun) ≡ ended ls ++ cut_after (λ b. b == 10) begun
cut_after-lines_and [] begun none = refl
cut_after-lines_and (line ∷ ls) begun none =
    let parts = and_parts (has_no_line_feed line) (list_all has_no_line_feed ls) none in
    ap (cut_after (λ b. b == 10)) (grouped_line line (with_ends ls) begun)
    ∙ cut_after-part (λ b. b == 10) line 10 (with_ends ls ++ begun) parts.0 refl
    ∙ ap (λ (rest : List (List ℕ)). (line ++ 10 ∷ []) ∷ rest) (cut_after-lines_and ls begun parts.1)

pub cut_after-with_ends : (ls : List (List ℕ)) → list_all has_no_line_feed ls ≡ true
    → cut_after (λ b. b == 10) (with_ends ls) ≡ ended ls
cut_after-with_ends ls none = ap (cut_after (λ b. b == 10)) (sym (append-nil (with_ends ls)))
    ∙ (cut_after-lines_and ls [] none ∙ append-nil (ended ls))

-- A stream of texts of whole lines, and what follows it, is cut into these texts and what follows is cut into. `Next` is
-- what has to hold of the lines after a text.
module _ (text : Picture → List ℕ) (text_lines : Picture → List (List ℕ)) (is_cut : List ℕ → List ℕ → Bool)
    (IsSuch : Picture → Type 0) (Next : List (List ℕ) → Type 0) (whole : (p : Picture) → text p ≡ with_ends (text_lines p))
    (no_line_feeds : (p : Picture) → IsSuch p → list_all has_no_line_feed (text_lines p) ≡ true)
    (next : (p : Picture) (more : List (List ℕ)) → Next (ended (text_lines p) ++ more))
    (first : (p : Picture) (more : List (List ℕ)) → IsSuch p → Next more
    → cut_between is_cut (ended (text_lines p) ++ more) ≡ ended (text_lines p) ∷ cut_between is_cut more) where
  stream_lines : (ps : List Picture) → flat_map text ps ≡ with_ends (flat_map text_lines ps)
  stream_lines [] = refl
  stream_lines (p ∷ ps) = rw (whole p, stream_lines ps)
      (sym (flat_map-append (λ line. line ++ 10 ∷ []) (text_lines p) (flat_map text_lines ps)))

  no_more_line_feeds : (ps : List Picture) → AllByRecursion IsSuch ps
      → list_all has_no_line_feed (flat_map text_lines ps) ≡ true
  no_more_line_feeds [] all = refl
  no_more_line_feeds (p ∷ ps) all = list_all-append has_no_line_feed (text_lines p) (flat_map text_lines ps)
      ∙ rw (no_line_feeds p all.0, no_more_line_feeds ps all.1) refl

  -- the lines of a text, and then those of more texts and what follows them
  first_text : (p : Picture) (ps : List Picture) (more : List (List ℕ)) → ended (flat_map text_lines (p ∷ ps)) ++ more
      ≡ ended (text_lines p) ++ (ended (flat_map text_lines ps) ++ more)
  first_text p ps more =
      ap (λ (ls : List (List ℕ)). ls ++ more)
      (map-append (λ line. line ++ 10 ∷ []) (text_lines p) (flat_map text_lines ps))
      ∙ append_assoc (ended (text_lines p)) (ended (flat_map text_lines ps)) more

  next_lines : (ps : List Picture) (more : List (List ℕ)) → Next more → Next (ended (flat_map text_lines ps) ++ more)
  next_lines [] more h = h
  next_lines (p ∷ ps) more h = subst Next (sym (first_text p ps more)) (next p (ended (flat_map text_lines ps) ++ more))

  cut_again : (ps : List Picture) (more : List (List ℕ)) → AllByRecursion IsSuch ps → Next more
      → map concat (cut_between is_cut (ended (flat_map text_lines ps) ++ more))
      ≡ map text ps ++ map concat (cut_between is_cut more)
  cut_again [] more all h = refl
  cut_again (p ∷ ps) more all h =
      ap (λ ls. map concat (cut_between is_cut ls)) (first_text p ps more)
      ∙ rw (
        first p (ended (flat_map text_lines ps) ++ more) all.0 (next_lines ps more h),
        concat-ended (text_lines p),
        whole p,
        cut_again ps more all.1 h,
      ) refl

  files-flat_map : (ps : List Picture) (begun : List ℕ) → All IsSuch ps → Next (whole_lines begun)
      → files is_cut (flat_map text ps ++ begun) ≡ map text ps ++ files is_cut begun
  files-flat_map ps begun all h =
      let each = recursion_from_All IsSuch ps all in
      rw (stream_lines ps, cut_after-lines_and (flat_map text_lines ps) begun (no_more_line_feeds ps each))
      (cut_again ps (whole_lines begun) each h)

  -- the texts end with a line feed
  ended_stream : (ps : List Picture) (begun : List ℕ)
      → ended_text (flat_map text ps ++ begun) ≡ flat_map text ps ++ ended_text begun
  ended_stream ps begun = subst (λ (stream : List ℕ). ended_text (stream ++ begun) ≡ stream ++ ended_text begun)
      (sym (stream_lines ps)) (ended_text-with_ends (flat_map text_lines ps) begun)

  -- a beginning of more texts has to be such, up to its last line feed, that a part may begin there
  pub files_are_texts : ((more : List Picture) (begun rest : List ℕ) → flat_map text more ≡ begun ++ rest
      → Next (whole_lines (ended_text begun))) → Next [] → FilesAreTexts text (files is_cut) IsSuch
  files_are_texts next_begun next_none = record {
    whole = λ ps all. ap (files is_cut) (sym (append-nil (flat_map text ps)))
        ∙ (files-flat_map ps [] all next_none ∙ append-nil (map text ps));
    begins = λ ps more begun rest all e. ap (files is_cut) (ended_stream ps begun)
        ∙ files-flat_map ps (ended_text begun) all (next_begun more begun rest e);
  }

-- a beginning of files begins with a line `P1`, or it is empty, or `P` alone
magic_line : (begun : List ℕ) → list_all is_magic (take 1 (whole_lines (80 ∷ 49 ∷ 10 ∷ begun))) ≡ true
magic_line [] = refl
magic_line (b ∷ begun) = refl

magic_begun : (more : List Picture) (begun rest : List ℕ) → begun ≢ codes "P" → flat_map pbm_text more ≡ begun ++ rest
    → list_all is_magic (take 1 (whole_lines begun)) ≡ true
magic_begun more [] rest some e = refl
magic_begun [] (b ∷ begun) rest some e = cc
magic_begun (p ∷ ps) (b ∷ []) rest some e = absurd (some (ap (λ (xs : List ℕ). get_or xs 0 0 ∷ []) (sym e)))
magic_begun (p ∷ ps) (b ∷ c ∷ []) rest some e =
    let first : b ≡ 80 = ap (λ (xs : List ℕ). get_or xs 0 0) (sym e) in
    let second : c ≡ 49 = ap (λ (xs : List ℕ). get_or xs 1 0) (sym e) in rw (first, second) refl
magic_begun (p ∷ ps) (b ∷ c ∷ d ∷ begun) rest some e =
    let first : 80 ≡ b = ap (λ (xs : List ℕ). get_or xs 0 0) e in
    let second : 49 ≡ c = ap (λ (xs : List ℕ). get_or xs 1 0) e in
    let third : 10 ≡ d = ap (λ (xs : List ℕ). get_or xs 2 0) e in
    let same : 80 ∷ 49 ∷ 10 ∷ begun ≡ b ∷ c ∷ d ∷ begun = (λ i. first i ∷ second i ∷ third i ∷ begun) in
    subst (λ (xs : List ℕ). list_all is_magic (take 1 (whole_lines xs)) ≡ true) same (magic_line begun)

-- lines, each with its line feed, are not `P` alone
not_p : (ls : List (List ℕ)) → with_ends ls ≢ codes "P"
not_p [] e = cc
not_p ([] ∷ ls) e = cc
not_p ((b ∷ line) ∷ ls) e =
    omega (arith, ap length e, length-append (line ++ 10 ∷ []) (with_ends ls), length-append line (10 ∷ []))

magic_ended : (more : List Picture) (begun rest : List ℕ) → flat_map pbm_text more ≡ begun ++ rest
    → list_all is_magic (take 1 (whole_lines (ended_text begun))) ≡ true
unfolding ended_text
magic_ended more begun rest e =
    magic_begun more (ended_text begun) (open_line begun ++ rest) (not_p (ended_lines begun))
    (e ∙ ap (λ (xs : List ℕ). xs ++ rest) (IsCut-ended_lines begun).whole
    ∙ append_assoc (ended_text begun) (open_line begun) rest)

pub pbm_files-flat_map : FilesAreTexts pbm_text pbm_files IsDrawable
pbm_files-flat_map = files_are_texts pbm_text pbm_lines (λ line next. is_magic next) IsDrawable
    (λ ls. list_all is_magic (take 1 ls) ≡ true) pbm_text-lines no_line_feeds (λ p ls. refl)
    (λ p ls such h. cut_before-part is_magic (codes "P1\n") _ ls (no_more_magic p such) h) magic_ended refl
