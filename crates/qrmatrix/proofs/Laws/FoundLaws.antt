-- What reading a symbol found: a version, a level and a mask, whose format information both copies show.
use Rattle.std.proofs.Common.{◌≡◌, ℕ, zero, suc, ◌+◌, ◌/◌, ◌%◌, ◌^◌, ◌<◌, ◌≤◌, refl, sym, ap, subst, ◌∙◌, arith}
use Rattle.std.proofs.Common.{Bool, true, false, ◌&&◌, ◌==◌, cond, List, length, map, Some, None}
use Rattle.std.specs.Prelude.{bit_xor, reverse, if◌then◌else◌, find, nat_lt, option_and_then}
use Rattle.std.specs.Int.Bits.{xor_assoc, xor_self, xor_zero_r}
use Rattle.std.specs.List.{range_with_len}
use Rattle.std.proofs.lemmas.Bool.{and_parts, eqb-true, ltb-true}
use Rattle.std.proofs.lemmas.List.{length-map, length-reverse, reverse-reverse}
use Rattle.std.proofs.lemmas.Option.{none-some, option_and_then_some, same_Some}
use Rattle.gf256.specs.BinaryPolynomial.{binary_product, binary_remainder}
use Rattle.gf256.proofs.Laws.ProductRemainderLaws.{binary_quotient, binary_quotient-lt, binary_division}
use Rattle.labelcore.specs.declared.level.Level.{Level}
use Rattle.qrdata.specs.Bits.{bits_of, number_of, codewords_of}
use Rattle.qrdata.specs.Versions.{side_of, total_codewords}
use Rattle.qrdata.proofs.Laws.BitStringLaws.{bits_of-number_of}
use Rattle.qrmatrix.specs.Bits.{bit}
use Rattle.qrmatrix.specs.Reading.{Reading, format_copy_1, format_copy_2, information_at, level_of, read_format}
use Rattle.qrmatrix.specs.Reading.{read_bits}
use Rattle.qrmatrix.specs.Reading.{read_matrix, read_with, shows_version, shows_functions}
use Rattle.labelcore.proofs.Laws.ComputedLaws.{passes}
use Rattle.qrmatrix.proofs.Laws.WordDistanceLaws.{format_word}

-- the modules at a list of places
abbrev pub modules_at : (ℕ → ℕ → Bool) → List (ℕ × ℕ) → List Bool
modules_at m places = map (λ (p : ℕ × ℕ). m p.0 p.1) places

-- the bits of a word of format information, bit 0 first
abbrev pub word_bits : ℕ → List Bool
word_bits message = map (bit (format_word message)) (range_with_len 0 15)

-- the level and the mask that a word of format information says
abbrev pub format_of : ℕ → Level × ℕ
format_of word = let unmasked = bit_xor word 0x5412 in (level_of (unmasked / 2 ^ 13), unmasked / 2 ^ 10 % 8)

-- the format information that reading found
pub record IsFormat (n : ℕ) (m : ℕ → ℕ → Bool) (format : Level × ℕ) : Type 0 where
  pub message : ℕ
  pub low : message < 32
  pub first : modules_at m format_copy_1 ≡ word_bits message
  pub second : modules_at m (format_copy_2 n) ≡ word_bits message
  pub value : format ≡ format_of (format_word message)

-- the modules at fifteen places are the bits of their number
bits_at : (m : ℕ → ℕ → Bool) (places : List (ℕ × ℕ)) (message : ℕ) → length places ≡ 15
    → information_at m places ≡ format_word message → modules_at m places ≡ word_bits message
unfolding bits_of
bits_at m places message count e =
    let bits = reverse (modules_at m places) in
    let long : length bits ≡ 15 =
    length-reverse (modules_at m places) ∙ length-map places (λ (p : ℕ × ℕ). m p.0 p.1) ∙ count in
    let spelled = subst (λ k. bits_of k (number_of bits) ≡ bits) long (bits_of-number_of bits) in
    sym (reverse-reverse (modules_at m places)) ∙ ap reverse (sym spelled ∙ ap (bits_of 15) e)

-- each multiple of the generator, the format mask laid over, is the word of its message
message_of : ℕ → ℕ
message_of quotient = binary_product 5 0x537 quotient / 2 ^ 10

word_of_quotient : (q : ℕ) → q < 32 → (nat_lt (message_of q) 32
    && bit_xor (binary_product 5 0x537 q) 0x5412 == format_word (message_of q)) ≡ true
unfolding message_of format_word binary_product binary_remainder
word_of_quotient q h = passes
    (λ q. nat_lt (message_of q) 32 && bit_xor (binary_product 5 0x537 q) 0x5412 == format_word (message_of q)) 32 q
    refl h

if_both : {A : Type 0} (a b : Bool) (x y : A) → (if a && b then Some x else None) ≡ Some y
    → (a ≡ true) × (b ≡ true) × (x ≡ y)
if_both true true x y e = (refl, refl, same_Some x y e)
if_both true false x y e = absurd (none-some y e)
if_both false b x y e = absurd (none-some y e)

pub IsFormat-of : (n : ℕ) (m : ℕ → ℕ → Bool) (format : Level × ℕ) → read_format n m ≡ Some format → IsFormat n m format
unfolding read_format
IsFormat-of n m format e =
    let first = information_at m format_copy_1 in
    let u = bit_xor first 0x5412 in
    let parts = if_both (first == information_at m (format_copy_2 n)) (binary_remainder 10 0x537 5 u == 0)
    (format_of first) format e in
    let q = binary_quotient 10 0x537 5 u in
    let product = binary_product 5 0x537 q in
    let multiple : u ≡ product = binary_division 10 0x537 5 u ∙ ap (bit_xor product) (eqb-true _ 0 parts.1)
    ∙ xor_zero_r product in
    let found = and_parts (nat_lt (message_of q) 32) (bit_xor product 0x5412 == format_word (message_of q))
    (word_of_quotient q (binary_quotient-lt 10 0x537 5 u)) in
    let word : first ≡ format_word (message_of q) =
    sym (xor_zero_r first) ∙ ap (bit_xor first) (sym (xor_self 0x5412)) ∙ sym (xor_assoc first 0x5412 0x5412)
    ∙ ap (λ x. bit_xor x 0x5412) multiple ∙ eqb-true _ _ found.1 in
    record {
      message = message_of q;
      low = ltb-true _ 32 found.0;
      first = bits_at m format_copy_1 (message_of q) refl word;
      second = bits_at m (format_copy_2 n) (message_of q) refl
          (sym (eqb-true first (information_at m (format_copy_2 n)) parts.0) ∙ word);
      value = sym parts.2 ∙ ap format_of word;
    }

pub find_in_range : (test : ℕ → Bool) (a n k : ℕ) → find test (range_with_len a n) ≡ Some k
    → (test k ≡ true) × (a ≤ k) × (k < a + n)
find_in_range test a zero k e = absurd (none-some k e)
find_in_range test a (suc n) k e = at (test a) refl e (find_in_range test (a + 1) n k)
  where
    at : (b : Bool) → test a ≡ b → cond b (Some a) (find test (range_with_len (a + 1) n)) ≡ Some k
        → (find test (range_with_len (a + 1) n) ≡ Some k → (test k ≡ true) × (a + 1 ≤ k) × (k < a + 1 + n))
        → (test k ≡ true) × (a ≤ k) × (k < a + suc n)
    at true is found later =
        let same = same_Some a k found in
        (subst (λ j. test j ≡ true) same is, omega (arith, same), omega (arith, same))
    at false is found later =
        let rest = later found in (rest.0, omega (arith, rest.1), omega (arith, rest.2))

-- what a symbol of a version, level and mask is read as
abbrev pub reading_of : ℕ → Level × ℕ → (ℕ → ℕ → Bool) → Reading
reading_of v format m = record {
  version = v;
  level = format.0;
  codewords = codewords_of (total_codewords v) (read_bits v format.1 m);
}

-- what reading a symbol found
pub record IsReading (n : ℕ) (m : ℕ → ℕ → Bool) (r : Reading) : Type 0 where
  pub version : ℕ
  pub found : find (λ v. side_of v == n) (range_with_len 1 10) ≡ Some version
  pub side : side_of version ≡ n
  pub least : 1 ≤ version
  pub most : version ≤ 10
  pub format : Level × ℕ
  pub information : IsFormat n m format
  pub functions : shows_functions version format.0 format.1 m ≡ true
  pub value : reading_of version format m ≡ r

pub IsReading-of : (n : ℕ) (m : ℕ → ℕ → Bool) (r : Reading) → read_matrix n m ≡ Some r → IsReading n m r
unfolding read_matrix
IsReading-of n m r e =
    option_and_then_some (λ v. option_and_then (read_with v m) (read_format n m))
    (find (λ v. side_of v == n) (range_with_len 1 10)) r e (λ v found after.
    option_and_then_some (read_with v m) (read_format n m) r after (λ format is_format rest.
    let range = find_in_range (λ v. side_of v == n) 1 10 v found in
    let shown = if_both (shows_version v (side_of v) m) (shows_functions v format.0 format.1 m) _ r rest in
    record {
      version = v;
      found = found;
      side = eqb-true (side_of v) n range.0;
      least = range.1;
      most = omega (arith, range.2);
      format = format;
      information = IsFormat-of n m format is_format;
      functions = shown.1;
      value = shown.2;
    }))
