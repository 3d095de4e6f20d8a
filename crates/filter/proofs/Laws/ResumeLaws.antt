-- The scripts of the parts of a text.
use Rattle.filter.proofs.Laws.Words.{◌≡◌, ◌≢◌, ℕ, ◌+◌, List, [], ◌∷◌, ◌++◌, length, append_assoc, refl, ap, sym, ◌∙◌, arith}
use Rattle.filter.proofs.Laws.Words.{append-nil, LF, lines, ended_lines, open_line, unless_empty, HasNoLF, IsCut, with_ends}
use Rattle.filter.proofs.Laws.Words.{Options, Event, of_line, flushes, outcome, events_after, line_number, sent}
use Rattle.filter.proofs.Laws.Words.{Images, script, ended_script, zero-add, add-zero, bytes_for, image_of}
use Rattle.std.proofs.lemmas.Grind.{flat_map-append}
use Rattle.std.proofs.lemmas.List.Concat.{flat_map-cons}
use Rattle.std.proofs.lemmas.List.Elements.{All-append, All-cons, All-head, All-nil, All-tail}
use Rattle.labelcore.proofs.Laws.LinesLaws.{IsCut-ended_lines, ended_lines-cut, open_line-cut}
use Rattle.filter.proofs.Laws.FilterLaws.{events_after-append}
use Rattle.filter.specs.Resume.{Resumes, script_after}

-- ---- the lines of two texts

-- a text that ends with a LF, and a text after it
cut_both : (first second : List ℕ) (ended : List (List ℕ)) → IsCut first ended []
    → IsCut (first ++ second) (ended ++ ended_lines second) (open_line second)
cut_both first second ended cut = let later = IsCut-ended_lines second in record {
  whole = ap (λ (xs : List ℕ). xs ++ second) (cut.whole ∙ append-nil (with_ends ended))
      ∙ (ap (λ (xs : List ℕ). with_ends ended ++ xs) later.whole
      ∙ (sym (append_assoc (with_ends ended) (with_ends (ended_lines second)) (open_line second))
      ∙ ap (λ (xs : List ℕ). xs ++ open_line second)
      (sym (flat_map-append (λ (line : List ℕ). line ++ LF ∷ []) ended (ended_lines second)))));
  each = All-append HasNoLF ended (ended_lines second) cut.each later.each;
  rest_open = later.rest_open;
}

lines-both : (first second : List ℕ) (ended : List (List ℕ)) → IsCut first ended []
    → lines (first ++ second) ≡ ended ++ lines second
unfolding lines
lines-both first second ended cut = let both = cut_both first second ended cut in
    rw (ended_lines-cut both, open_line-cut both) (append_assoc ended (ended_lines second) (unless_empty (open_line second)))

lines-cut : {text : List ℕ} {ended : List (List ℕ)} {rest : List ℕ} → IsCut text ended rest
    → lines text ≡ ended ++ unless_empty rest
unfolding lines
lines-cut cut = rw (ended_lines-cut cut, open_line-cut cut) refl

-- one line with its LF
cut_line : (line : List ℕ) → HasNoLF line → IsCut (line ++ LF ∷ []) (line ∷ []) []
cut_line line no_lf = record {
  whole = sym (append-nil (with_ends (line ∷ [])) ∙ append-nil (line ++ LF ∷ []));
  each = All-cons HasNoLF line [] no_lf (All-nil HasNoLF);
  rest_open = All-nil (λ b. b ≢ LF);
}

-- ---- a text cut after some of its lines

record CutAfter (text : List ℕ) (before after : List (List ℕ)) : Type 0 where
  pub front : List ℕ
  pub rest : List ℕ
  pub cut : text ≡ front ++ rest
  pub are_before : lines front ≡ before
  pub are_after : lines rest ≡ after

lines-nil : lines [] ≡ []
unfolding lines ended_lines open_line
lines-nil = refl

head_of : {A : Type 0} {x y : A} {xs ys : List A} → x ∷ xs ≡ y ∷ ys → x ≡ y
head_of e = cc

tail_of : {A : Type 0} {x y : A} {xs ys : List A} → x ∷ xs ≡ y ∷ ys → xs ≡ ys
tail_of e = cc

cut_after : (text : List ℕ) (ended : List (List ℕ)) (rest : List ℕ) → IsCut text ended rest
    → (before after : List (List ℕ)) → ended ++ unless_empty rest ≡ before ++ after → CutAfter text before after
cut_after text ended rest cut [] after e = record {
  front = [];
  rest = text;
  cut = refl;
  are_before = lines-nil;
  are_after = lines-cut cut ∙ e;
}
cut_after text [] [] cut (x ∷ before) after e = absurd (cc)
cut_after text [] (byte ∷ bytes) cut (x ∷ []) [] e = record {
  front = text;
  rest = [];
  cut = sym (append-nil text);
  are_before = lines-cut cut ∙ e;
  are_after = lines-nil;
}
cut_after text [] (byte ∷ bytes) cut (x ∷ []) (y ∷ after) e = absurd (cc)
cut_after text [] (byte ∷ bytes) cut (x ∷ y ∷ before) after e = absurd (cc)
cut_after text (line ∷ ended) rest cut (x ∷ before) after e =
    let no_lf = All-head HasNoLF line ended cut.each in
    let text' = with_ends ended ++ rest in
    let later = cut_after text' ended rest (record {
      whole = refl;
      each = All-tail HasNoLF line ended cut.each;
      rest_open = cut.rest_open;
    }) before after (tail_of e) in
    record {
      front = (line ++ LF ∷ []) ++ later.front;
      rest = later.rest;
      cut = cut.whole ∙ (ap (λ (xs : List ℕ). xs ++ rest) (flat_map-cons (λ (l : List ℕ). l ++ LF ∷ []) line ended)
          ∙ (append_assoc (line ++ LF ∷ []) (with_ends ended) rest
          ∙ (ap (λ (xs : List ℕ). (line ++ LF ∷ []) ++ xs) later.cut
          ∙ sym (append_assoc (line ++ LF ∷ []) later.front later.rest))));
      are_before = lines-both (line ++ LF ∷ []) later.front (line ∷ []) (cut_line line no_lf)
          ∙ (ap (λ (ls : List (List ℕ)). line ∷ ls) later.are_before
          ∙ ap (λ (l : List ℕ). l ∷ before) (head_of e));
      are_after = later.are_after;
    }

-- ---- the events of lines

-- the lines of which some events are done
record DoneLines (options : Options) (n : ℕ) (ls : List (List ℕ)) (done rest : List Event) : Type 0 where
  pub before : List (List ℕ)
  pub after : List (List ℕ)
  pub cut : ls ≡ before ++ after
  pub are_done : done ≡ events_after options n before
  pub are_left : rest ≡ events_after options (n + length before) after ++ flushes ∷ []

done_lines : (options : Options) (n : ℕ) (ls : List (List ℕ)) (done : List Event) (event : Event) (later : List Event)
    → events_after options n ls ++ flushes ∷ [] ≡ done ++ event ∷ later
    → DoneLines options n ls done (event ∷ later)
unfolding events_after
done_lines options n ls [] event later e = record {
  before = [];
  after = ls;
  cut = refl;
  are_done = refl;
  are_left = sym e ∙ ap (λ (k : ℕ). events_after options k ls ++ flushes ∷ []) (sym (add-zero n));
}
done_lines options n [] (d ∷ []) event later e = absurd (cc)
done_lines options n [] (d ∷ d' ∷ done) event later e = absurd (cc)
done_lines options n (x ∷ ls) (d ∷ done) event later e =
    let h = done_lines options (n + 1) ls done event later (tail_of e) in
    let k : (n + 1) + length h.before ≡ n + length (x ∷ h.before) = omega arith in
    record {
      before = x ∷ h.before;
      after = h.after;
      cut = ap (λ (xs : List (List ℕ)). x ∷ xs) h.cut;
      are_done = ap (λ (y : Event). y ∷ done) (sym (head_of e))
          ∙ ap (λ (es : List Event). of_line (line_number n) (outcome options x) ∷ es) h.are_done;
      are_left = h.are_left ∙ ap (λ (j : ℕ). events_after options j h.after ++ flushes ∷ []) k;
    }

-- the images of lines do not depend on their numbers
images_after : (options : Options) (n m : ℕ) (ls : List (List ℕ))
    → sent options.run Images (events_after options n ls) ≡ sent options.run Images (events_after options m ls)
unfolding events_after
images_after options n m [] = refl
images_after options n m (x ∷ ls) =
    flat_map-cons (bytes_for options.run Images) (of_line (line_number n) (outcome options x)) (events_after options (n + 1) ls)
    ∙ (ap (λ (xs : List ℕ). image_of options.run (outcome options x) ++ xs) (images_after options (n + 1) (m + 1) ls)
    ∙ sym (flat_map-cons (bytes_for options.run Images) (of_line (line_number m) (outcome options x))
    (events_after options (m + 1) ls)))

pub script_after-images : (options : Options) (before : ℕ) (text : List ℕ)
    → sent options.run Images (script_after options before text) ≡ sent options.run Images (script options text)
script_after-images options before text =
    let end = flushes ∷ [] in
    flat_map-append (bytes_for options.run Images) (events_after options before (lines text)) end
    ∙ (ap (λ (xs : List ℕ). xs ++ sent options.run Images end) (images_after options before 0 (lines text))
    ∙ sym (flat_map-append (bytes_for options.run Images) (events_after options 0 (lines text)) end))

-- ---- the laws

pub script-cut : (options : Options) (first second : List ℕ) → open_line first ≡ []
    → script options (first ++ second)
    ≡ ended_script options first ++ script_after options (length (ended_lines first)) second
script-cut options first second none =
    let cut : IsCut first (ended_lines first) [] = rw none at (IsCut-ended_lines first) in
    let ended = ended_lines first in
    ap (λ (ls : List (List ℕ)). events_after options 0 ls ++ flushes ∷ []) (lines-both first second (ended_lines first) cut)
    ∙ (ap (λ (es : List Event). es ++ flushes ∷ []) (events_after-append options 0 ended (lines second)
    ∙ ap (λ (k : ℕ). events_after options 0 ended ++ events_after options k (lines second)) (zero-add (length ended)))
    ∙ append_assoc (events_after options 0 ended) (events_after options (length ended) (lines second)) (flushes ∷ []))

pub Resumes-done : (options : Options) (text : List ℕ) (done later : List Event) (event : Event)
    → script options text ≡ done ++ event ∷ later → Resumes options text done
Resumes-done options text done later event e =
    let h = done_lines options 0 (lines text) done event later e in
    let c = IsCut-ended_lines text in
    let two = cut_after text (ended_lines text) (open_line text) c h.before h.after (sym (lines-cut c) ∙ h.cut) in
    let events : script options text ≡ done ++ script_after options (length (lines two.front)) two.rest =
    e ∙ ap (λ (es : List Event). done ++ es) (h.are_left
    ∙ rw (two.are_before, two.are_after, zero-add (length h.before)) refl) in
    record {
      front = two.front;
      rest = two.rest;
      cut = two.cut;
      is_done = h.are_done ∙ ap (events_after options 0) (sym two.are_before);
      events = events;
      images = ap (sent options.run Images) events ∙ (flat_map-append (bytes_for options.run Images) done _
          ∙ ap (λ (xs : List ℕ). sent options.run Images done ++ xs)
          (script_after-images options (length (lines two.front)) two.rest));
    }
