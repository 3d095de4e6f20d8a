-- Numbers written as bits are read back.
use Rattle.std.proofs.Common.{◌≡◌, ℕ, zero, suc, ◌+◌, ◌*◌, ◌/◌, ◌%◌, ◌^◌, ◌<◌, ◌≤◌, List, [], ◌∷◌, ◌++◌, take}
use Rattle.std.proofs.Common.{drop, length, refl, sym, ap, ◌∙◌, arith, Bool, true, false}
use Rattle.std.proofs.Common.{append_assoc, drop-cons, get_or, zero-add, zero-mul, one-mul, length-append}
use Rattle.std.proofs.Math.Pow.{split, field, mod-mod-pow}
use Rattle.std.proofs.Math.Nat.{add-div_left, add-mod_left, div-div-eq-div-mul, div-eq_of_lt, mod-lt}
use Rattle.std.proofs.Math.Nat.{mod-mod, mod-one, mod-eq_of_lt, mul-add-mod_self_right, mul_comm}
use Rattle.std.proofs.Math.Nat.{two-pow-succ}
use Rattle.std.proofs.lemmas.Nat.{div-mul-add, pow-add, pow_pos}
use Rattle.std.proofs.lemmas.Bool.{le-ltb, lt-leb}
use Rattle.std.specs.Prelude.{◌==◌, if◌then◌else◌, nat_lt, nat_le, Some}
use Rattle.std.proofs.lemmas.List.{take_at, drop_at}
use Rattle.qrdata.specs.Bits.{bits_of, number_of}
use Rattle.qrdata.specs.Reading.{number_at}

pub length-bits_of : (width n : ℕ) → length (bits_of width n) ≡ width
unfolding bits_of
length-bits_of zero n = refl
length-bits_of (suc width) n = ap suc (length-bits_of width n)

bit_worth : (b m : ℕ) → b < 2 → (if b == 1 then m else 0) ≡ b * m
bit_worth zero m h = sym (zero-mul m)
bit_worth (suc zero) m h = sym (one-mul m)
bit_worth (suc (suc b)) m h = absurd (omega arith)

-- the low bits of a number are the highest of them and the rest
low_bits : (width n : ℕ) → (n / 2 ^ width % 2) * 2 ^ width + n % 2 ^ width ≡ n % 2 ^ (1 + width)
low_bits width n = rw (← field n 1 width, ← mod-mod-pow n 1 width) (split (n % 2 ^ (1 + width)) width)

pub number_of-bits_of : (width n : ℕ) → number_of (bits_of width n) ≡ n % 2 ^ width
unfolding bits_of number_of
number_of-bits_of zero n = sym (mod-one n)
number_of-bits_of (suc width) n =
    let low : n / 2 ^ width % 2 < 2 = omega arith in
    let one : suc width ≡ 1 + width = omega arith in
    rw (length-bits_of width n, number_of-bits_of width n, bit_worth (n / 2 ^ width % 2) (2 ^ width) low, one)
    (low_bits width n)

-- where one piece more is written, what is written and what is to come are what they were
pub next_written : (old piece rest : List Bool) {new all : List Bool} → new ≡ old ++ piece
    → old ++ (piece ++ rest) ≡ all → new ++ rest ≡ all
next_written old piece rest e h = rw (e, append_assoc old piece rest) h

-- what is left begins with its first element
pub drop_next : (xs : List ℕ) (i j : ℕ) → i < length xs → j ≡ i + 1 → drop i xs ≡ get_or xs i 0 ∷ drop j xs
drop_next xs i j h e = let next : suc i ≡ j = omega arith in rw (drop-cons xs i 0, next) refl

-- a number that is written in `width` bits is read back
pub number_at-bits_of : (limit width n : ℕ) (rest : List Bool) → n < limit → n < 2 ^ width
    → number_at limit width (bits_of width n ++ rest) ≡ Some (n, rest)
unfolding number_at
number_at-bits_of limit width n rest h k =
    let front : take width (bits_of width n ++ rest) ≡ bits_of width n =
    take_at (bits_of width n) rest width (length-bits_of width n) in
    let back : drop width (bits_of width n ++ rest) ≡ rest =
    drop_at (bits_of width n) rest width (length-bits_of width n) in
    let value : number_of (bits_of width n) ≡ n = number_of-bits_of width n ∙ mod-eq_of_lt k in
    let long : width ≤ length (bits_of width n ++ rest) =
    omega (arith, length-bits_of width n, length-append (bits_of width n) rest) in
    let enough : nat_lt (length (bits_of width n ++ rest)) width ≡ false = le-ltb _ _ long in
    let small : nat_le limit n ≡ false = lt-leb _ _ h in
    rw (front, back, value, enough, small) refl

pub number_of-lt : (bits : List Bool) → number_of bits < 2 ^ length bits
unfolding number_of
number_of-lt [] = omega arith
number_of-lt (true ∷ bits) = omega (arith, number_of-lt bits, two-pow-succ (length bits))
number_of-lt (false ∷ bits) = omega (arith, number_of-lt bits, two-pow-succ (length bits))

-- the low bits are those of the remainder
bits_of-same : (width m n : ℕ) → m % 2 ^ width ≡ n % 2 ^ width → bits_of width m ≡ bits_of width n
unfolding bits_of
bits_of-same zero m n e = refl
bits_of-same (suc width) m n e =
    let one : suc width ≡ 1 + width = omega arith in
    let same : m % 2 ^ (1 + width) ≡ n % 2 ^ (1 + width) = rw (← one) e in
    let bit : m / 2 ^ width % 2 ≡ n / 2 ^ width % 2 =
    sym (field m 1 width) ∙ (ap (λ k. k / 2 ^ width) same ∙ field n 1 width) in
    let low : m % 2 ^ width ≡ n % 2 ^ width =
    sym (mod-mod-pow m 1 width) ∙ (ap (λ k. k % 2 ^ width) same ∙ mod-mod-pow n 1 width) in
    rw (bit, bits_of-same width m n low) refl

high_bit : (m n : ℕ) → m < n → (n + m) / n % 2 ≡ 1
high_bit m n h = rw (add-div_left m {k = n} (omega arith), div-eq_of_lt h) refl

-- bits are those of their number
pub bits_of-number_of : (bits : List Bool) → bits_of (length bits) (number_of bits) ≡ bits
unfolding bits_of number_of
bits_of-number_of [] = refl
bits_of-number_of (true ∷ bits) =
    let m = number_of bits in
    let below = number_of-lt bits in
    let low = bits_of-same (length bits) (2 ^ length bits + m) m (add-mod_left (2 ^ length bits) m) in
    rw (low, high_bit m (2 ^ length bits) below, bits_of-number_of bits) refl
bits_of-number_of (false ∷ bits) = rw (zero-add, div-eq_of_lt (number_of-lt bits), bits_of-number_of bits) refl

-- the bits of a number are those of its high part and those of its low part
pub bits_of-parts : (a b n : ℕ) → bits_of (a + b) n ≡ bits_of a (n / 2 ^ b) ++ bits_of b n
unfolding bits_of
bits_of-parts zero b n = let none : 0 + b ≡ b = omega arith in rw none refl
bits_of-parts (suc a) b n =
    let more : suc a + b ≡ suc (a + b) = omega arith in
    let power : 2 ^ (a + b) ≡ 2 ^ b * 2 ^ a = rw (pow-add 2 a b) (mul_comm (2 ^ a) (2 ^ b)) in
    let high : n / 2 ^ b / 2 ^ a ≡ n / 2 ^ (a + b) = rw power (div-div-eq-div-mul n (2 ^ b) (2 ^ a)) in
    rw (more, high, bits_of-parts a b n) refl

pub bits_of-low : (width n : ℕ) → bits_of width (n % 2 ^ width) ≡ bits_of width n
bits_of-low width n = bits_of-same width (n % 2 ^ width) n (mod-mod n (2 ^ width))

-- a number in `width` bits after one in `count` bits
pub bits_of-joined : (count width value number : ℕ)
    → bits_of (count + width) (value * 2 ^ width + number % 2 ^ width) ≡ bits_of count value ++ bits_of width number
bits_of-joined count width value number =
    let low : number % 2 ^ width < 2 ^ width = mod-lt number (pow_pos width) in
    let high : (value * 2 ^ width + number % 2 ^ width) / 2 ^ width ≡ value =
    div-mul-add value (2 ^ width) (number % 2 ^ width) low in
    let rest : bits_of width (value * 2 ^ width + number % 2 ^ width) ≡ bits_of width number =
    bits_of-same width (value * 2 ^ width + number % 2 ^ width) number
    (mul-add-mod_self_right value (2 ^ width) (number % 2 ^ width) ∙ mod-mod number (2 ^ width)) in
    rw (bits_of-parts count width (value * 2 ^ width + number % 2 ^ width), high, rest) refl
