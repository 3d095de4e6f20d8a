-- What a symbol is read as, by its side, the first modules of row 8, its patterns and the walk.
use mathlib.Core.Path.{fun_ext}
use Rattle.std.proofs.Common.{◌≡◌, ℕ, ◌+◌, ◌-◌, ◌/◌, ◌<◌, ◌≤◌, refl, sym, ap, subst, ◌∙◌, arith, Bool, true, false}
use Rattle.std.proofs.Common.{List, [], ◌∷◌, ◌++◌, length, map, Option, Some, None, ◌&&◌, ◌==◌}
use Rattle.std.specs.Prelude.{All, find, if◌then◌else◌, nat_le, nat_lt, option_and_then, slice_index_or}
use mathlib.Core.Bool.{xor}
use Rattle.std.specs.List.{filter, flat_map, list_all, range_with_len}
use Rattle.std.proofs.lemmas.Bool.{and_parts, eqb-true, leb-true, ltb-true}
use Rattle.std.proofs.Math.Bool.{and-false}
use Rattle.std.proofs.lemmas.Bool.Decides.{nat_tests}
use Rattle.std.proofs.lemmas.List.{length-map, map-append}
use Rattle.std.proofs.lemmas.List.Elements.{filter-append}
use Rattle.std.proofs.lemmas.List.Elements.{recursion_from_All}
use Rattle.labelcore.specs.declared.level.Level.{Level}
use Rattle.gf256.specs.BinaryPolynomial.{binary_remainder}
use Rattle.qrdata.specs.declared.bits.Bits.{Bits}
use Rattle.qrdata.specs.Bits.{codewords_of}
use Rattle.qrdata.specs.Versions.{side_of, total_codewords}
use Rattle.qrdata.specs.Private.BitsInCodewords.{bits_in}
use Rattle.qrdata.proofs.Laws.PaddingLaws.{whole_codewords}
use Rattle.qrmatrix.specs.Bits.{bit}
use Rattle.qrmatrix.specs.Functions.{is_free}
use Rattle.qrmatrix.specs.Masks.{is_flipped}
use Rattle.qrmatrix.specs.Placement.{remainder_bits}
use Rattle.qrmatrix.specs.Square.{value_at}
use Rattle.qrmatrix.specs.Private.Drawing.{MarksFree}
use Rattle.qrmatrix.specs.Reading.{read_bits, read_format, read_matrix, read_with, shows_functions, shows_version, walk}
use Rattle.qrmatrix.specs.declared.placement.Strip.{Strip}
use Rattle.qrmatrix.specs.Private.Placing.{IsStrip, right_column, row_of}
use Rattle.qr_reading.specs.Private.Walking.{DrawsPatterns, bit_if, format_named, module_in, row_read, rows_read, shows_row}
use Rattle.qr_reading.specs.Private.Walking.{unmasked}
use Rattle.qr_reading.proofs.Laws.PatternReadingLaws.{patterns_shown}
use Rattle.qr_reading.proofs.Laws.WalkedBitLaws.{same_pieces}
use Rattle.labelcore.proofs.Laws.ComputedLaws.{by_version, same_at}
use Rattle.qrmatrix.proofs.Laws.FoundLaws.{IsFormat-of, find_in_range, format_of, reading_of}
use Rattle.qrmatrix.proofs.Laws.ReadingLaws.{format_shown, version_is_shown}
use Rattle.qrmatrix.proofs.Laws.VersionLaws.{filtered, is_walked, room, same_filter, walked}
use Rattle.qrmatrix.proofs.Laws.WordDistanceLaws.{format_word}

-- ---- the walk

-- the two modules of a row of a strip, the right one first
abbrev pair_of : ℕ → ℕ → List (ℕ × ℕ)
pair_of x y = (x + 1, y) ∷ (x, y) ∷ []

-- the modules of a strip
abbrev places_of : ℕ → ℕ → List (ℕ × ℕ)
places_of n number = flat_map (λ t. pair_of (right_column n number - 1) (row_of n number t)) (range_with_len 0 n)

walk_is : (v : ℕ) → 1 ≤ v → v ≤ 10
    → walk (side_of v) ≡ flat_map (places_of (side_of v)) (range_with_len 0 ((side_of v - 1) / 2))
unfolding walk
walk_is = by_version (λ v. walk (side_of v))
    (λ v. flat_map (places_of (side_of v)) (range_with_len 0 ((side_of v - 1) / 2))) refl

-- the free modules of a strip
abbrev pub strip_read : ℕ → (free modules : ℕ → ℕ → Bool) → ℕ → List Bool
strip_read n free modules number =
    flat_map (λ t. row_read free modules (right_column n number - 1) (row_of n number t)) (range_with_len 0 n)

module _ (free modules : ℕ → ℕ → Bool) where
  -- the free modules at places
  abbrev kept : List (ℕ × ℕ) → List Bool
  kept places = map (λ (p : ℕ × ℕ). modules p.0 p.1) (filter (λ (p : ℕ × ℕ). free p.0 p.1) places)

  pair_kept : (x y : ℕ) → kept (pair_of x y) ≡ row_read free modules x y
  pair_kept x y = at (free (x + 1) y) (free x y)
    where
      at : (right left : Bool)
          → map (λ (p : ℕ × ℕ). modules p.0 p.1) (if right then (x + 1, y) ∷ (if left then (x, y) ∷ [] else [])
          else (if left then (x, y) ∷ [] else [])) ≡ bit_if right (modules (x + 1) y) ++ bit_if left (modules x y)
      at true true = refl
      at true false = refl
      at false true = refl
      at false false = refl

  all_kept : (places : ℕ → List (ℕ × ℕ)) (ks : List ℕ) → kept (flat_map places ks) ≡ flat_map (λ k. kept (places k)) ks
  all_kept places [] = refl
  all_kept places (k ∷ ks) =
      let is_left = λ (p : ℕ × ℕ). free p.0 p.1 in
      let module_at = λ (p : ℕ × ℕ). modules p.0 p.1 in
      let rest = flat_map places ks in
      ap (map module_at) (filter-append is_left (places k) rest)
      ∙ map-append module_at (filter is_left (places k)) (filter is_left rest)
      ∙ ap (λ l. kept (places k) ++ l) (all_kept places ks)

  strips_kept : (n : ℕ) (ks : List ℕ) → kept (flat_map (places_of n) ks) ≡ flat_map (strip_read n free modules) ks
  strips_kept n ks =
      all_kept (places_of n) ks ∙ ap (λ f. flat_map f ks) (fun_ext (λ number.
      all_kept (λ t. pair_of (right_column n number - 1) (row_of n number t)) (range_with_len 0 n)
      ∙ ap (λ f. flat_map f (range_with_len 0 n)) (fun_ext (λ t.
      pair_kept (right_column n number - 1) (row_of n number t)))))

-- a strip of rows that have the modules of others with a mask taken off
pub strip_is : (v : ℕ) (strip : Strip) (free : ℕ → ℕ → Bool) (modules rows : List ℕ) (mask number : ℕ) → IsStrip v strip
    → strip.number ≡ number → ((x y : ℕ) → x < 57 → y < length rows → module_in modules x y ≡ unmasked rows mask x y)
    → length rows ≡ side_of v
    → rows_read strip free (module_in modules) 0 strip.side ≡ strip_read (side_of v) free (unmasked rows mask) number
strip_is v strip free modules rows mask number is e same high_rows =
    let n = side_of v in
    let column : strip.x ≡ right_column n strip.number - 1 = omega (arith, is.column) in
    rw (is.side, column, ← e) (same_pieces _ _ 0 n (λ t low high.
    let y = row_of n strip.number t in
    let x = right_column n strip.number - 1 in
    let inside : y < length rows = grind (arith, high, high_rows) in
    let wide : x + 1 < 57 = grind (arith, is.most, is.number) in
    rw (same (x + 1) y wide inside, same x y (omega (arith, wide)) inside) refl))

module _ (v : ℕ) (least : 1 ≤ v) (most : v ≤ 10) where
  -- the walk reads the free modules with the mask taken off
  pub walk_read : (mask : ℕ) (free : List (List Bool)) (m : ℕ → ℕ → Bool) → MarksFree v free
      → flat_map (strip_read (side_of v) (value_at free) (λ x y. xor (is_flipped mask x y) (m x y)))
      (range_with_len 0 ((side_of v - 1) / 2)) ≡ read_bits v mask m
  unfolding read_bits
  walk_read mask free m marks =
      let n = side_of v in
      let is_left = λ (p : ℕ × ℕ). value_at free p.0 p.1 in
      let chosen = λ (p : ℕ × ℕ). is_free v p.0 p.1 in
      let same = same_filter is_left chosen (is_walked n)
      (λ p i. marks.inside p.0 p.1 (grind (arith, nat_tests)) (grind (arith, nat_tests))) (walk n) (walked v least most) in
      let module_at = λ (p : ℕ × ℕ). xor (is_flipped mask p.0 p.1) (m p.0 p.1) in
      sym (strips_kept (value_at free) (λ x y. xor (is_flipped mask x y) (m x y)) n (range_with_len 0 ((n - 1) / 2)))
      ∙ ap (λ places. map module_at (filter is_left places)) (sym (walk_is v least most)) ∙ ap (map module_at) same

  few_bits : (nat_le (room v) 2775 && nat_lt (remainder_bits v) 8) ≡ true
  unfolding total_codewords remainder_bits
  few_bits = by_version (λ v. nat_le (room v) 2775 && nat_lt (remainder_bits v) 8) (λ v. true) refl v least most

  length-read_bits : (mask : ℕ) (m : ℕ → ℕ → Bool) → length (read_bits v mask m) ≡ room v
  unfolding read_bits
  length-read_bits mask m = length-map _ _ ∙ filtered v least most

  pub bits_fit : (mask : ℕ) (m : ℕ → ℕ → Bool) → length (read_bits v mask m) ≤ 2775
  bits_fit mask m = omega (arith, length-read_bits mask m, leb-true (room v) 2775 (and_parts _ _ few_bits).0)

  -- the codewords of the bits that were read
  pub codewords_read : (mask : ℕ) (m : ℕ → ℕ → Bool) (bits : Bits) → bits_in bits ≡ read_bits v mask m
      → All (λ w. w < 256) bits.codewords.items
      → bits.codewords.items ≡ codewords_of (total_codewords v) (read_bits v mask m)
  codewords_read mask m bits is bytes =
      whole_codewords bits (total_codewords v) (recursion_from_All (λ w. w < 256) bits.codewords.items bytes)
      (omega (arith, ap length is ∙ length-read_bits mask m, ltb-true (remainder_bits v) 8 (and_parts _ _ few_bits).1))
      ∙ ap (codewords_of (total_codewords v)) is

-- ---- the format information

-- the level and the mask that five modules name are those of the format information
named_by_word : (message : ℕ) → message < 32 → format_of (format_word message)
    ≡ (let word = format_word message in format_named (λ x. bit word (14 - x)))
unfolding format_word binary_remainder
named_by_word message low =
    same_at 0 32 (λ message. format_of (format_word message)) (λ message. let word = format_word message in
    format_named (λ x. bit word (14 - x))) refl message (omega arith) low

module _ (n : ℕ) (m : ℕ → ℕ → Bool) where
  -- the level and the mask that the first five modules of row 8 name
  abbrev named : Level × ℕ
  named = format_named (λ x. m x 8)

  named_is : (format : Level × ℕ) → read_format n m ≡ Some format → format ≡ named
  named_is format e =
      let is = IsFormat-of n m format e in
      is.value ∙ named_by_word is.message is.low
      ∙ sym (ap (λ (l : List Bool). format_named (λ x. slice_index_or l (14 - x) false)) is.first)

  named_low : named.1 < 8
  named_low = grind arith

  pub unknown_side : find (λ v. side_of v == n) (range_with_len 1 10) ≡ None → read_matrix n m ≡ None
  unfolding read_matrix
  unknown_side none = rw none refl

  -- no version is wider than the tenth
  pub wide_side : 57 < n → read_matrix n m ≡ None
  wide_side wide = unknown_side (at (find (λ v. side_of v == n) (range_with_len 1 10)) refl)
    where
      at : (o : Option ℕ) → find (λ v. side_of v == n) (range_with_len 1 10) ≡ o
          → find (λ v. side_of v == n) (range_with_len 1 10) ≡ None
      at None e = e
      at (Some v) e =
          let range = find_in_range (λ v. side_of v == n) 1 10 v e in
          absurd (omega (arith, wide, range.2, eqb-true (side_of v) n range.0))

  module _ (v : ℕ) (found : find (λ v. side_of v == n) (range_with_len 1 10) ≡ Some v) where
    is_side : n ≡ side_of v
    is_side = sym (eqb-true (side_of v) n (find_in_range (λ v. side_of v == n) 1 10 v found).0)

    unread : shows_functions v named.0 named.1 m ≡ false → read_matrix n m ≡ None
    unfolding read_matrix
    unread wrong = rw found (at (read_format n m) refl)
      where
        at : (format : Option (Level × ℕ)) → read_format n m ≡ format
            → option_and_then (read_with v m) (read_format n m) ≡ None
        at None e = rw e refl
        at (Some format) e =
            rw (e, named_is format e, wrong, and-false (shows_version v (side_of v) m)) refl

    is_read : shows_functions v named.0 named.1 m ≡ true → read_matrix n m ≡ Some (reading_of v named m)
    unfolding read_matrix
    is_read shown =
        let range = find_in_range (λ v. side_of v == n) 1 10 v found in
        let side = eqb-true (side_of v) n range.0 in
        let most : v ≤ 10 = omega (arith, range.2) in
        let format = subst (λ k. read_format k m ≡ Some named) side
        (format_shown v named.0 named.1 m shown range.1 most named_low) in
        rw (found, format, version_is_shown v named.0 named.1 m shown range.1 most named_low, shown) refl

    -- the reading, by whether the patterns that are named and drawn are shown
    pub read_if_shown : (format : Level × ℕ) (free dark : List (List Bool)) (shown : Bool) → format ≡ named
        → DrawsPatterns v format.0 format.1 free dark
        → shown ≡ list_all (λ y. shows_row n (λ x. m x y) (λ x. value_at free x y) (λ x. value_at dark x y))
        (range_with_len 0 n) → read_matrix n m ≡ (if shown then Some (reading_of v format m) else None)
    read_if_shown format free dark shown is draws e =
        by_case shown (sym (ap (λ (f : Level × ℕ). shows_functions v f.0 f.1 m) is)
        ∙ sym (e ∙ patterns_shown n v format.0 format.1 free dark m is_side draws))
      where
        by_case : (b : Bool) → shows_functions v named.0 named.1 m ≡ b
            → read_matrix n m ≡ (if b then Some (reading_of v format m) else None)
        by_case true shows = is_read shows ∙ ap (λ f. Some (reading_of v f m)) (sym is)
        by_case false shows = unread shows
