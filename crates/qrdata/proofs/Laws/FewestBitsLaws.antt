-- The best list is a list of segments of the bytes, and no list costs less. Of the lists that a first segment begins
-- and the best list of the rest goes on, it is the cheapest. Of equally cheap ones it has the longest first segment.
use Rattle.std.proofs.Common.{◌≡◌, ℕ, zero, suc, ◌+◌, ◌^◌, ◌<◌, ◌≤◌, List, [], ◌∷◌, ◌++◌, map, drop, length, refl, ap}
use Rattle.std.proofs.Common.{◌∙◌, arith, Bool, true, false, cond, inl, inr, subst}
use Rattle.std.specs.Prelude.{nat_lt, filter, flat_map, reverse, IsTrue, ⊤}
use Rattle.std.specs.List.{AllByRecursion, range_with_len}
use Rattle.std.proofs.lemmas.Bool.{and_parts, cases_lt, cond_both, le-ltb, lt-ltb, ltb-true}
use Rattle.std.proofs.lemmas.List.{length-drop, reverse-append}
use Rattle.std.proofs.lemmas.List.Sums.{sum_by-cons}
use Rattle.qrdata.specs.declared.mode.Mode.{Mode}
use Rattle.qrdata.specs.declared.mode.Mode.TheVariants.{Numeric, Alphanumeric, Byte}
use Rattle.qrdata.specs.declared.mode.Segment.{Segment}
use Rattle.qrdata.specs.Segments.{IsFirstSegment, IsSegmentation, cost, count_width, modes, segment_length, segment_of}
use Rattle.qrdata.specs.Fewest.{chosen_segments, best_within, candidates, cheapest, first_segments, is_first}

range_with_len_more : (a n : ℕ) → range_with_len a (suc n) ≡ range_with_len a n ++ (a + n) ∷ []
range_with_len_more a zero = ap (λ k. k ∷ []) (omega arith)
range_with_len_more a (suc n) =
    let last : a + 1 + n ≡ a + suc n = omega arith in
    ap (λ ns. a ∷ ns) (range_with_len_more (a + 1) n ∙ ap (λ k. range_with_len (a + 1) n ++ k ∷ []) last)

-- the candidates of a length are tried before the shorter ones
candidates-more : (n : ℕ) → candidates (suc n)
    ≡ segment_of Numeric (suc n) ∷ segment_of Alphanumeric (suc n) ∷ segment_of Byte (suc n) ∷ candidates n
candidates-more n = ap (λ ns. flat_map (λ len. map (λ mode. segment_of mode len) modes) ns)
    (ap reverse (range_with_len_more 1 n) ∙ (reverse-append (range_with_len 1 n) ((1 + n) ∷ [])
    ∙ ap (λ k. k ∷ reverse (range_with_len 1 n)) (omega arith)))

-- what is true of each segment of at most n bytes is true of each candidate, and the other way round
all_candidates : (P : Segment → Type 0) (n : ℕ) → ((s : Segment) → 0 < s.len → s.len ≤ n → P s)
    → AllByRecursion P (candidates n)
all_candidates P zero each = tt
all_candidates P (suc n) each =
    let of_mode = λ (mode : Mode). each (segment_of mode (suc n)) (omega arith) (omega arith) in
    let later = all_candidates P n (λ s some inside. each s some (omega arith)) in
    rw (candidates-more n) (of_mode Numeric, (of_mode Alphanumeric, (of_mode Byte, later)))

each_candidate : (P : Segment → Type 0) (n : ℕ) → AllByRecursion P (candidates n) → (s : Segment) → 0 < s.len
    → s.len ≤ n → P s
each_candidate P zero all s some inside = absurd (omega arith)
each_candidate P (suc n) all s some inside =
    let parts = rw (candidates-more n) at all in
    elim (cases_lt n s.len) [
      | inl last ↦
          let long : suc n ≡ s.len = omega arith in
          subst (λ len. P (segment_of s.mode len)) long (elim s.mode as (λ mode. P (segment_of mode (suc n)))
          [ Numeric ↦ parts.0 | Alphanumeric ↦ parts.1.0 | Byte ↦ parts.1.1.0 ])
      | inr less ↦ each_candidate P n parts.1.1.1 s some less
    ]

-- the same of the elements that pass a test
All-filter : {A : Type 0} (P : A → Type 0) (p : A → Bool) (xs : List A) → AllByRecursion (λ x. IsTrue (p x) → P x) xs
    → AllByRecursion P (filter p xs)
All-filter P p [] all = tt
All-filter P p (x ∷ xs) all = cond_both (p x) (x ∷ filter p xs) (filter p xs) (AllByRecursion P)
    (λ yes. (all.0 yes, All-filter P p xs all.1)) (λ no. All-filter P p xs all.1)

each_passes : {A : Type 0} (P : A → Type 0) (p : A → Bool) (xs : List A) → AllByRecursion P (filter p xs)
    → AllByRecursion (λ x. IsTrue (p x) → P x) xs
each_passes P p [] all = tt
each_passes P p (x ∷ xs) all = cond_both (p x) (x ∷ filter p xs) (filter p xs)
    (λ l. AllByRecursion P l → AllByRecursion (λ x. IsTrue (p x) → P x) (x ∷ xs))
    (λ yes both. (λ _. both.0, each_passes P p xs both.1)) (λ no rest. (λ yes. cc, each_passes P p xs rest)) all

all_firsts : (P : Segment → Type 0) (version : ℕ) (bytes : List ℕ)
    → ((s : Segment) → IsFirstSegment version bytes s → P s) → AllByRecursion P (first_segments version bytes)
unfolding first_segments
all_firsts P version bytes each = All-filter P (is_first version bytes) (candidates (length bytes))
    (all_candidates (λ s. IsTrue (is_first version bytes s) → P s) (length bytes) (λ s some inside passes.
    let parts = and_parts _ _ passes in
    each s (record { some = some; inside = inside; characters = parts.0; counted = ltb-true _ _ parts.1 })))

each_first : (P : Segment → Type 0) (version : ℕ) (bytes : List ℕ) → AllByRecursion P (first_segments version bytes)
    → (s : Segment) → IsFirstSegment version bytes s → P s
unfolding first_segments
each_first P version bytes all s first =
    each_candidate (λ s. IsTrue (is_first version bytes s) → P s) (length bytes)
    (each_passes P (is_first version bytes) (candidates (length bytes)) all) s first.some first.inside
    (rw (first.characters, lt-ltb s.len (2 ^ count_width version s.mode) first.counted) refl)

-- no segment is longer than this, nor than one before it
abbrev IsFalling : ℕ → List Segment → Type 0
IsFalling longest [] = ⊤
IsFalling longest (s ∷ segments) = (s.len ≤ longest) × IsFalling s.len segments

falls_below : (m n : ℕ) (segments : List Segment) → m ≤ n → IsFalling m segments → IsFalling n segments
falls_below m n [] h falls = tt
falls_below m n (s ∷ segments) h falls = (omega (arith, falls.0), falls.1)

IsFalling-candidates : (n : ℕ) → IsFalling n (candidates n)
IsFalling-candidates zero = tt
IsFalling-candidates (suc n) =
    let shorter = falls_below n (suc n) (candidates n) (omega arith) (IsFalling-candidates n) in
    rw (candidates-more n) (omega arith, (omega arith, (omega arith, shorter)))

IsFalling-filter : (p : Segment → Bool) (n : ℕ) (segments : List Segment) → IsFalling n segments
    → IsFalling n (filter p segments)
IsFalling-filter p n [] falls = tt
IsFalling-filter p n (s ∷ segments) falls =
    let later = IsFalling-filter p s.len segments falls.1 in
    cond_both (p s) (s ∷ filter p segments) (filter p segments) (IsFalling n) (λ yes. (falls.0, later))
    (λ no. falls_below s.len n (filter p segments) falls.0 later)

-- r costs no more than s, and less if it is shorter
abbrev pub ComesFirst : (Segment → ℕ) → Segment → Segment → Type 0
ComesFirst f r s = (f r ≤ f s) × (r.len < s.len → f r < f s)

-- of the lists that segments name, that of one of them is the cheapest; P is true of it, and it comes first
record IsFirst (P : Segment → Type 0) (version : ℕ) (g : Segment → List Segment) (segments : List Segment)
    : Type 0 where
  first : Segment
  is : cheapest version (map g segments) ≡ g first
  holds : P first
  low : AllByRecursion (ComesFirst (λ s. cost version (g s)) first) segments

lowest_is : (P : Segment → Type 0) (version : ℕ) (g : Segment → List Segment) (a : Segment) (segments : List Segment)
    → IsFalling a.len segments → P a → AllByRecursion P segments → IsFirst P version g (a ∷ segments)
lowest_is P version g a [] falls holds all =
    record { first = a; is = refl; holds = holds; low = ((omega arith, λ less. absurd (omega arith)), tt) }
lowest_is P version g a (b ∷ segments) falls holds all =
    let lead = λ (t : Bool). cheapest version (cond t (g b) (g a) ∷ map g segments) in
    elim (cases_lt (cost version (g b)) (cost version (g a))) [
      | inl less ↦
          let later = lowest_is P version g b segments falls.1 all.0 all.1 in
          let low = later.low.0 in record {
            first = later.first;
            is = ap lead (lt-ltb (cost version (g b)) (cost version (g a)) less) ∙ later.is;
            holds = later.holds;
            low = ((omega arith, λ longer. omega arith), later.low);
          }
      | inr more ↦
          let later = lowest_is P version g a segments (falls_below b.len a.len segments falls.0 falls.1) holds all.1 in
          let low = later.low.0 in
          let short = falls.0 in record {
            first = later.first;
            is = ap lead (le-ltb (cost version (g b)) (cost version (g a)) more) ∙ later.is;
            holds = later.holds;
            low = (low, ((omega arith, λ longer. omega (arith, low.1)), later.low.1));
          }
    ]

-- one byte in byte mode is a first segment
one_byte : (version b : ℕ) (bytes : List ℕ) → IsFirstSegment version (b ∷ bytes) (segment_of Byte 1)
one_byte version b bytes = record {
  some = omega arith;
  inside = omega arith;
  characters = refl;
  counted = elim (nat_lt version 10) as (λ short. 1 < 2 ^ cond short 8 16) [ true ↦ omega arith | false ↦ omega arith ];
}

cheapest_found : (P : Segment → Type 0) (version : ℕ) (g : Segment → List Segment) (n : ℕ) (segments : List Segment)
    → (segments ≡ [] → ⊥) → IsFalling n segments → AllByRecursion P segments → IsFirst P version g segments
cheapest_found P version g n [] some falls all = absurd (some refl)
cheapest_found P version g n (a ∷ segments) some falls all = lowest_is P version g a segments falls.1 all.0 all.1

map-same : {A B : Type 0} (f g : A → B) (xs : List A) → AllByRecursion (λ x. f x ≡ g x) xs → map f xs ≡ map g xs
map-same f g [] same = refl
map-same f g (x ∷ xs) same = rw (same.0, map-same f g xs same.1) refl

-- any bound from the length on gives the same list
best_within-same : (version m n : ℕ) (bytes : List ℕ) → length bytes ≤ m → length bytes ≤ n
    → best_within version m bytes ≡ best_within version n bytes
unfolding best_within first_segments
best_within-same version zero zero [] h k = refl
best_within-same version zero (suc n) [] h k = refl
best_within-same version (suc m) zero [] h k = refl
best_within-same version (suc m) (suc n) [] h k = refl
best_within-same version zero n (b ∷ bytes) h k = absurd (omega arith)
best_within-same version (suc m) zero (b ∷ bytes) h k = absurd (omega arith)
best_within-same version (suc m) (suc n) (b ∷ bytes) h k =
    let f = λ (k : ℕ) (s : Segment). s ∷ best_within version k (drop s.len (b ∷ bytes)) in
    let same = all_firsts (λ s. f m s ≡ f n s) version (b ∷ bytes) (λ s first. ap (λ rest. s ∷ rest)
    (best_within-same version m n (drop s.len (b ∷ bytes)) (omega (arith, length-drop s.len (b ∷ bytes), first.some))
    (omega (arith, length-drop s.len (b ∷ bytes), first.some)))) in
    ap (cheapest version) (map-same (f m) (f n) (first_segments version (b ∷ bytes)) same)

-- a list that a first segment begins and the best list of the rest goes on
abbrev pub continued : ℕ → List ℕ → Segment → List Segment
continued version bytes s = s ∷ chosen_segments version (drop s.len bytes)

pub cost-continued : (version : ℕ) (bytes : List ℕ) (s : Segment)
    → cost version (continued version bytes s) ≡ segment_length version s
    + cost version (chosen_segments version (drop s.len bytes))
cost-continued version bytes s = sum_by-cons (segment_length version) s (chosen_segments version (drop s.len bytes))

pub chosen_segments-nil : (version : ℕ) → chosen_segments version [] ≡ []
unfolding chosen_segments best_within
chosen_segments-nil version = refl

chosen_segments-cons : (version b : ℕ) (bytes : List ℕ) → chosen_segments version (b ∷ bytes)
    ≡ cheapest version (map (continued version (b ∷ bytes)) (first_segments version (b ∷ bytes)))
unfolding chosen_segments best_within
chosen_segments-cons version b bytes =
    let within = λ (s : Segment). s ∷ best_within version (length bytes) (drop s.len (b ∷ bytes)) in
    let same = all_firsts (λ s. within s ≡ continued version (b ∷ bytes) s) version (b ∷ bytes) (λ s first.
    ap (λ rest. s ∷ rest) (best_within-same version (length bytes) (length (drop s.len (b ∷ bytes)))
    (drop s.len (b ∷ bytes)) (omega (arith, length-drop s.len (b ∷ bytes), first.some)) (omega arith))) in
    ap (cheapest version) (map-same within (continued version (b ∷ bytes)) (first_segments version (b ∷ bytes)) same)

-- the best list is that of a first segment, which comes first
pub record IsBest (version : ℕ) (bytes : List ℕ) : Type 0 where
  pub first : Segment
  pub is : chosen_segments version bytes ≡ continued version bytes first
  pub fits : IsFirstSegment version bytes first
  pub low : (s : Segment) → IsFirstSegment version bytes s
      → ComesFirst (λ s. cost version (continued version bytes s)) first s

pub chosen_segments-best : (version b : ℕ) (bytes : List ℕ) → IsBest version (b ∷ bytes)
unfolding first_segments
chosen_segments-best version b bytes =
    let P = IsFirstSegment version (b ∷ bytes) in
    let firsts = first_segments version (b ∷ bytes) in
    let n = length (b ∷ bytes) in
    let some = λ (none : firsts ≡ []). each_first (λ s. ⊥) version (b ∷ bytes) (rw none tt) (segment_of Byte 1)
    (one_byte version b bytes) in
    let found = cheapest_found P version (continued version (b ∷ bytes)) n firsts some
    (IsFalling-filter (is_first version (b ∷ bytes)) n (candidates n) (IsFalling-candidates n))
    (all_firsts P version (b ∷ bytes) (λ s first. first)) in
    record {
      first = found.first;
      is = chosen_segments-cons version b bytes ∙ found.is;
      fits = found.holds;
      low = each_first (ComesFirst (λ s. cost version (continued version (b ∷ bytes) s)) found.first) version
          (b ∷ bytes) found.low;
    }

-- no list of segments of the bytes costs less
pub chosen_segments-le_cost : (version : ℕ) (bytes : List ℕ) (segments : List Segment)
    → IsSegmentation version segments bytes → cost version (chosen_segments version bytes) ≤ cost version segments
chosen_segments-le_cost version bytes [] cut = rw (cut, chosen_segments-nil version) (omega arith)
chosen_segments-le_cost version [] (s ∷ segments) cut = absurd (omega (arith, cut.0.some, cut.0.inside))
chosen_segments-le_cost version (b ∷ bytes) (s ∷ segments) cut =
    let best = chosen_segments-best version b bytes in
    omega (
      arith,
      ap (cost version) best.is,
      (best.low s cut.0).0,
      cost-continued version (b ∷ bytes) s,
      sum_by-cons (segment_length version) s segments,
      chosen_segments-le_cost version (drop s.len (b ∷ bytes)) segments cut.1,
    )

is_within : (version n : ℕ) (bytes : List ℕ) → length bytes ≤ n
    → IsSegmentation version (chosen_segments version bytes) bytes
is_within version n [] short = rw (chosen_segments-nil version) refl
is_within version zero (b ∷ bytes) short = absurd (omega arith)
is_within version (suc n) (b ∷ bytes) short =
    let best = chosen_segments-best version b bytes in
    let len = best.first.len in
    rw best.is (
      best.fits,
      is_within version n (drop len (b ∷ bytes))
          (omega (arith, length-drop len (b ∷ bytes), best.fits.some)),
    )

pub chosen_segments-is : (version : ℕ) (bytes : List ℕ) → IsSegmentation version (chosen_segments version bytes) bytes
chosen_segments-is version bytes = is_within version (length bytes) bytes (omega arith)
