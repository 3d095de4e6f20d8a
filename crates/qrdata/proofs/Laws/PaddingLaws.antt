-- The data codewords hold the bits of the segments, and after them what a reader takes as their end.
use Rattle.std.proofs.Common.{◌≡◌, ℕ, zero, suc, ◌+◌, ◌-◌, ◌*◌, ◌/◌, ◌%◌, ◌<◌, ◌≤◌, List, [], ◌∷◌, ◌++◌, take, drop}
use Rattle.std.proofs.Common.{length, replicate, refl, ap, append_assoc, append-nil, length-append, arith, Bool, true}
use Rattle.std.proofs.Common.{false, min, ◌∙◌, ◌^◌, sym, inl, inr}
use Rattle.std.specs.Prelude.{◌==◌, if◌then◌else◌}
use Rattle.std.proofs.lemmas.List.FromFn.{length-map-range_with_len}
use Rattle.std.proofs.lemmas.List.{length-replicate, length-take-le, length-drop, take-append-drop, take_at, drop_at}
use Rattle.std.proofs.lemmas.List.{replicate-append-replicate}
use Rattle.std.proofs.lemmas.Bool.{cases_lt}
use Rattle.std.proofs.lemmas.Grind.{flat_map-append}
use Rattle.std.proofs.lemmas.Bool.Decides.{nat_tests}
use Rattle.qrdata.specs.Bits.{bits_of, number_of, codewords_of}
use Rattle.qrdata.specs.Codewords.{with_zeros, with_pad_codewords, pad_codewords, data_codewords_of, with_terminator}
use Rattle.qrdata.specs.Segments.{byte_bits}
use Rattle.qrdata.specs.Reading.{is_end}
use Rattle.std.proofs.Math.Nat.{div-eq_of_lt, mod-eq_of_lt}
use Rattle.std.proofs.lemmas.Nat.{pow_pos}
use Rattle.qrdata.specs.declared.bits.Bits.{Bits}
use Rattle.qrdata.specs.Private.BitsInCodewords.{bits_in}
use Rattle.qrdata.proofs.Laws.BitStringLaws.{bits_of-joined, bits_of-low, bits_of-number_of, bits_of-parts, length-bits_of}
use Rattle.qrdata.proofs.Laws.BitStringLaws.{number_of-bits_of}
use Rattle.labelcore.proofs.Laws.KeptLaws.{AreBytes}

pub byte_bits-append : (xs ys : List ℕ) → byte_bits (xs ++ ys) ≡ byte_bits xs ++ byte_bits ys
unfolding byte_bits
byte_bits-append xs ys = flat_map-append (bits_of 8) xs ys

pub byte_bits-single : (a : ℕ) → byte_bits (a ∷ []) ≡ bits_of 8 a
unfolding byte_bits
byte_bits-single a = append-nil (bits_of 8 a)

-- a byte after some bits fills a codeword, and as many bits are left over
pub byte_written : (codewords : List ℕ) (count number byte : ℕ) → byte < 256
    → byte_bits (codewords ++ (number * 256 + byte) / 2 ^ count % 2 ^ 8 ∷ [])
    ++ bits_of count ((number * 256 + byte) % 2 ^ count)
    ≡ (byte_bits codewords ++ bits_of count number) ++ bits_of 8 byte
byte_written codewords count number byte small =
    let value = number * 256 + byte in
    let order : 8 + count ≡ count + 8 = omega arith in
    let same : value ≡ number * 2 ^ 8 + byte % 2 ^ 8 = omega (arith, mod-eq_of_lt small) in
    let joined : bits_of (8 + count) value ≡ bits_of count number ++ bits_of 8 byte =
    ap (λ k. bits_of k value) order ∙ (ap (bits_of (count + 8)) same ∙ bits_of-joined count 8 number byte) in
    rw (
      byte_bits-append,
      byte_bits-single,
      bits_of-low 8 (value / 2 ^ count),
      bits_of-low count value,
      append_assoc (byte_bits codewords),
    )
    (ap (λ bits. byte_bits codewords ++ bits) (sym (bits_of-parts 8 count value) ∙ joined)
    ∙ sym (append_assoc (byte_bits codewords) (bits_of count number) (bits_of 8 byte)))

pub eight_bits : (bits : List Bool) → length bits ≡ 8 → bits_of 8 (number_of bits) ≡ bits
eight_bits bits e = rw (← e) (bits_of-number_of bits)

byte_bits-codewords_of : (n : ℕ) (bits : List Bool) → length bits ≡ 8 * n → byte_bits (codewords_of n bits) ≡ bits
unfolding byte_bits codewords_of
byte_bits-codewords_of zero [] e = refl
byte_bits-codewords_of zero (b ∷ bits) e = absurd (omega arith)
byte_bits-codewords_of (suc n) bits e =
    let first : length (take 8 bits) ≡ 8 = length-take-le 8 bits (omega arith) in
    let later : length (drop 8 bits) ≡ 8 * n = omega (arith, length-drop 8 bits) in
    rw (eight_bits (take 8 bits) first, byte_bits-codewords_of n (drop 8 bits) later)
    (take-append-drop 8 bits)

pub length-codewords_of : (n : ℕ) (bits : List Bool) → length (codewords_of n bits) ≡ n
unfolding codewords_of
length-codewords_of zero bits = refl
length-codewords_of (suc n) bits = ap suc (length-codewords_of n (drop 8 bits))

length-pad_codewords : (n : ℕ) → length (pad_codewords n) ≡ n
length-pad_codewords n = length-map-range_with_len (λ i. if i % 2 == 0 then 0xEC else 0x11) 0 n

-- four zeros, or fewer than four bits, end the segments
is_end-zeros : (n : ℕ) (rest : List Bool) → 4 ≤ n → is_end (replicate n false ++ rest) ≡ true
unfolding number_of
is_end-zeros n rest many = let four : n ≡ suc (suc (suc (suc (n - 4)))) = omega arith in rw four refl

is_end-short : (bits : List Bool) → length bits < 4 → is_end bits ≡ true
is_end-short bits h = grind (arith, nat_tests)

pub length-byte_bits : (bytes : List ℕ) → length (byte_bits bytes) ≡ 8 * length bytes
unfolding byte_bits
length-byte_bits [] = refl
length-byte_bits (b ∷ bytes) =
    omega (arith, length-append (bits_of 8 b) (byte_bits bytes), length-bits_of 8 b, length-byte_bits bytes)

-- With the terminator and the zeros after it the bits fill whole codewords, no more than there are. Four zeros come
-- after the bits, or no codeword is left.
pub record IsEnded (size : ℕ) (bits : List Bool) : Type 0 where
  pub codewords : ℕ
  pub zeros : ℕ
  pub is : with_zeros (with_terminator (8 * size) bits) ≡ bits ++ replicate zeros false
  pub whole : length (with_zeros (with_terminator (8 * size) bits)) ≡ 8 * codewords
  pub within : codewords ≤ size
  pub few_zeros : zeros < 4 → codewords ≡ size

pub IsEnded-of : (size : ℕ) (bits : List Bool) → length bits ≤ 8 * size → IsEnded size bits
unfolding with_terminator with_zeros
IsEnded-of size bits h =
    let t = min 4 (8 * size - length bits) in
    let ended = bits ++ replicate t false in
    let z = (8 - length ended % 8) % 8 in
    let long : length ended ≡ length bits + t =
    omega (arith, length-append bits (replicate t false), length-replicate t false) in
    record {
      codewords = (length bits + t + z) / 8;
      zeros = t + z;
      is = append_assoc bits (replicate t false) (replicate z false)
          ∙ ap (λ zeros. bits ++ zeros) (replicate-append-replicate t z false);
      whole = omega (arith, length-append ended (replicate z false), length-replicate z false);
      within = omega arith;
      few_zeros = λ few. omega arith;
    }

with_pad_codewords-whole : (size n : ℕ) (whole : List Bool) → length whole ≡ 8 * n
    → byte_bits (with_pad_codewords size whole) ≡ whole ++ byte_bits (pad_codewords (size - n))
unfolding with_pad_codewords
with_pad_codewords-whole size n whole e =
    let count : length whole / 8 ≡ n = omega arith in
    rw (count, byte_bits-append, byte_bits-codewords_of n whole e) refl

-- The data codewords hold the bits, and then what ends them.
pub data_codewords_of-ends : (size : ℕ) (bits : List Bool) → length bits ≤ 8 * size → (rest : List Bool)
    × (byte_bits (data_codewords_of size bits) ≡ bits ++ rest) × (is_end rest ≡ true)
unfolding data_codewords_of
data_codewords_of-ends size bits h =
    let a = IsEnded-of size bits h in
    let zeros = replicate a.zeros false in
    let pad = byte_bits (pad_codewords (size - a.codewords)) in (
      zeros ++ pad,
      rw (a.is, with_pad_codewords-whole size a.codewords (bits ++ zeros) (rw a.is at a.whole))
          (append_assoc bits zeros pad),
      elim (cases_lt a.zeros 4) [
        | inr many ↦ is_end-zeros a.zeros pad many
        | inl few ↦ is_end-short (zeros ++ pad) (omega (
          arith,
          length-append zeros pad,
          length-replicate a.zeros false,
          length-byte_bits (pad_codewords (size - a.codewords)),
          length-pad_codewords (size - a.codewords),
          a.few_zeros few,
        ))
      ],
    )

pub length-data_codewords_of : (size : ℕ) (bits : List Bool) → length bits ≤ 8 * size
    → length (data_codewords_of size bits) ≡ size
unfolding data_codewords_of with_pad_codewords
length-data_codewords_of size bits h =
    let a = IsEnded-of size bits h in
    let ended = with_zeros (with_terminator (8 * size) bits) in
    omega (
      arith,
      length-append (codewords_of (length ended / 8) ended) (pad_codewords (size - length ended / 8)),
      length-codewords_of (length ended / 8) ended,
      length-pad_codewords (size - length ended / 8),
      a.whole,
      a.within,
    )

-- a zero is written in zeros
bit_zero : (width : ℕ) → (0 / 2 ^ width % 2 == 1) ≡ false
bit_zero width = let none : 0 / 2 ^ width ≡ 0 = div-eq_of_lt (pow_pos width) in rw none refl

pub bits_of-zero : (width : ℕ) → bits_of width 0 ≡ replicate width false
unfolding bits_of
bits_of-zero zero = refl
bits_of-zero (suc width) = rw (bit_zero width, bits_of-zero width) refl

-- the codewords of the bits of bytes are the bytes, whatever bits come after them
codewords_of-byte_bits : (codewords : List ℕ) (rest : List Bool) → AreBytes codewords
    → codewords_of (length codewords) (byte_bits codewords ++ rest) ≡ codewords
unfolding codewords_of byte_bits
codewords_of-byte_bits [] rest w = refl
codewords_of-byte_bits (codeword ∷ codewords) rest w =
    rw (
      append_assoc (bits_of 8 codeword) (byte_bits codewords) rest,
      take_at (bits_of 8 codeword) (byte_bits codewords ++ rest) 8 (length-bits_of 8 codeword),
      drop_at (bits_of 8 codeword) (byte_bits codewords ++ rest) 8 (length-bits_of 8 codeword),
      number_of-bits_of 8 codeword,
      mod-eq_of_lt w.0,
      codewords_of-byte_bits codewords rest w.1,
    ) refl

pub length-bits_in : (bits : Bits) → length (bits_in bits) ≡ 8 * length bits.codewords.items + bits.rest.count
length-bits_in bits =
    omega (
      arith,
      length-append (byte_bits bits.codewords.items) (bits_of bits.rest.count bits.rest.number),
      length-byte_bits bits.codewords.items,
      length-bits_of bits.rest.count bits.rest.number,
    )

-- the codewords that are full are those of all the bits
pub whole_codewords : (bits : Bits) (n : ℕ) → AreBytes bits.codewords.items → length (bits_in bits) / 8 ≡ n
    → bits.codewords.items ≡ codewords_of n (bits_in bits)
whole_codewords bits n w whole =
    let size : n ≡ length bits.codewords.items = omega (arith, whole, length-bits_in bits, bits.rest.few) in
    rw size (sym (codewords_of-byte_bits bits.codewords.items (bits_of bits.rest.count bits.rest.number) w))
