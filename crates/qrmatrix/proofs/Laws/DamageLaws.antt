-- Symbols that are both read, and differ in at most 13 modules, have the same version and level, and no more wrong
-- codewords than modules.
use Rattle.std.proofs.Common.{◌≡◌, ℕ, zero, suc, ◌+◌, ◌-◌, ◌*◌, ◌<◌, ◌≤◌, refl, sym, ap, subst, ◌∙◌, arith}
use Rattle.std.proofs.Common.{Bool, true, false, not, cond, List, [], ◌∷◌, ◌++◌, length, map, take, drop, sum}
use Rattle.std.proofs.Common.{Option, Some, None}
use Rattle.std.proofs.Common.{inl, inr}
use Rattle.std.specs.Prelude.{IfSome}
use mathlib.Core.Bool.{xor}
use mathlib.Core.Path.{fun_ext}
use Rattle.std.specs.Bool.{beq}
use Rattle.std.specs.Cmp.{booleans_Decides}
use Rattle.std.specs.List.{count_by, filter, range_with_len}
use Rattle.std.proofs.lemmas.Bool.{cases_lt, eq-eqb, not-false}
use Rattle.std.proofs.lemmas.Bool.Decides.{eqb_tells}
use Rattle.std.proofs.lemmas.List.{take-map, drop-map}
use Rattle.std.proofs.lemmas.List.Elements.{All-from_recursion}
use Rattle.std.proofs.lemmas.List.Kept.{AllPairs-filter}
use Rattle.std.proofs.lemmas.List.Sums.{sum-map, sum_by-append, sum_by-cons, sum_by-take-drop}
use Rattle.std.proofs.lemmas.Map.Keys.{apart_from_distinct}
use Rattle.std.proofs.lemmas.Map.Made.{IsDistinct-from_count}
use Rattle.std.specs.Set.{distinct_count}
use Rattle.std.specs.Simd.Lanes.{zip2}
use Rattle.std.proofs.lemmas.Simd.{zip2-map}
use Rattle.std.proofs.lemmas.Option.{same_Some}
use Rattle.gf256.specs.ErrorCorrection.{wrong_codewords}
use Rattle.labelcore.specs.declared.level.Level.{Level}
use Rattle.qrdata.specs.Bits.{number_of, codewords_of}
use Rattle.qrdata.specs.Versions.{IsVersion, side_of, total_codewords}
use Rattle.qrdata.proofs.Laws.DataReadingLaws.{AreBytes-codewords_of}
use Rattle.qrdata.proofs.Laws.PaddingLaws.{length-codewords_of}
use Rattle.qrmatrix.specs.Bits.{bit}
use Rattle.qrmatrix.specs.Functions.{is_free}
use Rattle.qrmatrix.specs.Information.{different_bits}
use Rattle.qrmatrix.specs.Masks.{is_flipped}
use Rattle.qrmatrix.specs.Placement.{key}
use Rattle.qrmatrix.specs.Reading.{Reading, format_copy_1, format_copy_2, read_bits, read_matrix, walk}
use Rattle.qrmatrix.specs.Reading.{AgreeBut, IsLike, IsGuarded}
use Rattle.labelcore.proofs.Laws.ComputedLaws.{by_version}
use Rattle.qrmatrix.proofs.Laws.FoundLaws.{IsFormat, IsReading, IsReading-of, format_of, modules_at}
use Rattle.qrmatrix.proofs.Laws.FoundLaws.{reading_of, word_bits}
use Rattle.qrmatrix.proofs.Laws.PlaceLaws.{AreApart, apart_by_key, differs, few_differ, place_laws, same_place}
use Rattle.qrmatrix.proofs.Laws.VersionLaws.{keys}
use Rattle.qrmatrix.proofs.Laws.WordDistanceLaws.{format_word, format_words_apart}

-- ---- bits that differ

module _ {X : Type 0} (f g : X → Bool) where
  abbrev differ : X → Bool
  differ x = not (beq (f x) (g x))

  same_map : (xs : List X) → count_by differ xs ≡ 0 → map f xs ≡ map g xs
  same_map [] none = refl
  same_map (x ∷ xs) none = at (differ x) refl (sum_by-cons (λ x. cond (differ x) 1 0) x xs) (same_map xs)
    where
      at : (b : Bool) → differ x ≡ b → count_by differ (x ∷ xs) ≡ cond b 1 0 + count_by differ xs
          → (count_by differ xs ≡ 0 → map f xs ≡ map g xs) → map f (x ∷ xs) ≡ map g (x ∷ xs)
      at true is count later = absurd (omega (arith, none, count))
      at false is count later =
          let here = (booleans_Decides (f x) (g x)).0 (not-false (beq (f x) (g x)) is) in
          let there = later (omega (arith, none, count)) in
          cc

  -- no more codewords are wrong than bits
  wrong_codewords_of : (n : ℕ) (xs : List X)
      → wrong_codewords (codewords_of n (map f xs)) (codewords_of n (map g xs)) ≤ count_by differ xs
  unfolding codewords_of wrong_codewords
  wrong_codewords_of zero xs = omega arith
  wrong_codewords_of (suc n) xs =
      let rest = rw (← drop-map f 8 xs, ← drop-map g 8 xs) at (wrong_codewords_of n (drop 8 xs)) in
      let parts = sum_by-take-drop (λ x. cond (differ x) 1 0) xs 8 in
      let first = number_of (take 8 (map f xs)) in
      let second = number_of (take 8 (map g xs)) in
      elim (cases_lt 0 (count_by differ (take 8 xs))) [
        | inl some ↦ elim (eqb_tells first second) [
          | inl same ↦ rw same.0 (omega (arith, rest, parts))
          | inr other ↦ rw other.0 (omega (arith, rest, parts, some))
        ]
        | inr none ↦
            let equal : first ≡ second =
            ap number_of (take-map f 8 xs ∙ same_map (take 8 xs) (omega (arith, none)) ∙ sym (take-map g 8 xs)) in
            rw (eq-eqb first second equal) (omega (arith, rest, parts))
      ]

  -- how many items differ, by the two lists
  differences : (xs : List X)
      → sum (zip2 (λ a b. cond (not (beq a b)) 1 0) (map f xs) (map g xs)) ≡ count_by differ xs
  differences xs = ap sum (zip2-map (λ a b. cond (not (beq a b)) 1 0) f g xs) ∙ sum-map (λ x. cond (differ x) 1 0) xs

-- ---- the codewords

flipped_alike : (b c d : Bool) → not (beq (xor b c) (xor b d)) ≡ not (beq c d)
unfolding xor
flipped_alike b c d = grind arith

wrong_read : (v mask : ℕ) (m other : ℕ → ℕ → Bool) (turned : List (ℕ × ℕ)) → 1 ≤ v → v ≤ 10 → AgreeBut turned m other
    → (n : ℕ) → wrong_codewords (codewords_of n (read_bits v mask m)) (codewords_of n (read_bits v mask other))
    ≤ length turned
unfolding read_bits
wrong_read v mask m other turned l h agree n =
    let side = side_of v in
    let free = λ (p : ℕ × ℕ). is_free v p.0 p.1 in
    let places = filter free (walk side) in
    let bit_of = λ (m : ℕ → ℕ → Bool) (p : ℕ × ℕ). xor (is_flipped mask p.0 p.1) (m p.0 p.1) in
    let alike : count_by (λ p. not (beq (bit_of m p) (bit_of other p))) places ≡ count_by (differs m other) places =
    ap (λ test. count_by test places)
    (fun_ext (λ p. flipped_alike (is_flipped mask p.0 p.1) (m p.0 p.1) (other p.0 p.1))) in
    omega (
      arith,
      wrong_codewords_of (bit_of m) (bit_of other) n places,
      alike,
      few_differ turned m other agree places (AllPairs-filter (λ p q. same_place p q ≡ false) free (walk side)
          (apart_by_key (key side) (walk side) (side * (side - 1)) (keys v l h))),
    )

-- ---- the format information

-- the places of both copies are apart
copies_apart : (v : ℕ) → 1 ≤ v → v ≤ 10 → AreApart (format_copy_1 ++ format_copy_2 (side_of v))
copies_apart v l h i j d before inside =
    let copies = λ (v : ℕ). format_copy_1 ++ format_copy_2 (side_of v) in
    apart_from_distinct same_place (copies v) i j d (IsDistinct-from_count place_laws (copies v)
    (by_version (λ v. distinct_count same_place (copies v)) (λ v. 30) refl v l h)) before inside

-- as many bits of two words differ as modules of a copy
module _ (m other : ℕ → ℕ → Bool) where
  copy_differs : (places : List (ℕ × ℕ)) (j k : ℕ) → modules_at m places ≡ word_bits j
      → modules_at other places ≡ word_bits k
      → different_bits 15 (format_word j) (format_word k) ≡ count_by (differs m other) places
  copy_differs places j k e f =
      sym (differences (bit (format_word j)) (bit (format_word k)) (range_with_len 0 15))
      ∙ (λ i. sum (zip2 (λ a b. cond (not (beq a b)) 1 0) (sym e i) (sym f i)))
      ∙ differences (λ (p : ℕ × ℕ). m p.0 p.1) (λ (p : ℕ × ℕ). other p.0 p.1) places

  -- symbols that differ in at most 13 modules have the same format information
  same_format : (v : ℕ) (turned : List (ℕ × ℕ)) (format other_format : Level × ℕ) → 1 ≤ v → v ≤ 10
      → length turned ≤ 13 → AgreeBut turned m other → IsFormat (side_of v) m format
      → IsFormat (side_of v) other other_format → other_format ≡ format
  same_format v turned format other_format l h few agree one two =
      let second_copy = format_copy_2 (side_of v) in
      let first = copy_differs format_copy_1 one.message two.message one.first two.first in
      let second = copy_differs second_copy one.message two.message one.second two.second in
      let both = sum_by-append (λ p. cond (differs m other p) 1 0) format_copy_1 second_copy in
      let all = few_differ turned m other agree (format_copy_1 ++ second_copy) (copies_apart v l h) in
      let same = format_words_apart one.message two.message one.low two.low
      (omega (arith, first, second, both, all, few)) in
      two.value ∙ ap (λ j. format_of (format_word j)) (sym same) ∙ sym one.value

-- ---- the symbol

like : (n : ℕ) (m other : ℕ → ℕ → Bool) (turned : List (ℕ × ℕ)) (r s : Reading) → length turned ≤ 13
    → AgreeBut turned m other → IsReading n m r → IsReading n other s → IsLike (length turned) r s
like n m other turned r s few agree one two =
    let v = one.version in
    let version : two.version ≡ v = same_Some two.version v (sym two.found ∙ one.found) in
    let at_side = λ (m : ℕ → ℕ → Bool) (format : Level × ℕ) (is : IsFormat n m format).
    subst (λ k. IsFormat k m format) (sym one.side) is in
    let format = same_format m other v turned one.format two.format one.least one.most few agree
    (at_side m one.format one.information) (at_side other two.format two.information) in
    let bits = λ (m : ℕ → ℕ → Bool). read_bits v one.format.1 m in
    let total = total_codewords v in
    subst (λ (p : Reading × Reading). IsLike (length turned) p.0 p.1)
    (λ i. (one.value i, ((λ i. reading_of (sym version i) (sym format i) other) ∙ two.value) i)) (record {
      version = refl;
      level = refl;
      codewords = length-codewords_of total (bits other) ∙ sym (length-codewords_of total (bits m));
      bytes = All-from_recursion (λ w. w < 256) _ (AreBytes-codewords_of total (bits other));
      few = wrong_read v one.format.1 m other turned one.least one.most agree total;
    })

-- a symbol that is read is guarded
pub IsGuarded-read : (n : ℕ) (m : ℕ → ℕ → Bool) (r : Reading) → read_matrix n m ≡ Some r → IsGuarded n m r
IsGuarded-read n m r read turned other few agree = at (read_matrix n other) refl
  where
    at : (o : Option Reading) → read_matrix n other ≡ o → IfSome o (IsLike (length turned) r)
    at None is = tt
    at (Some s) is = like n m other turned r s few agree (IsReading-of n m r read) (IsReading-of n other s is)

pub read_version : (n : ℕ) (m : ℕ → ℕ → Bool) (r : Reading) → read_matrix n m ≡ Some r → IsVersion r.version
read_version n m r read =
    let one = IsReading-of n m r read in
    subst (λ (s : Reading). IsVersion s.version) one.value (one.least, one.most)
