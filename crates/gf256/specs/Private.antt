-- Definitions that only the contracts of private functions cite: nothing here has to be believed.
use Rattle.std.specs.Prelude.{◌≡◌, ◌<◌, ◌-◌, ℕ, List, [], ◌∷◌, ◌++◌, bit_xor, drop, replicate, slice_index}
use Rattle.std.specs.Prelude.{slice_index_or}
use Rattle.gf256.specs.ErrorCorrection.{generator}
use Rattle.gf256.specs.Polynomial.{polynomial_sum, scalar_multiple}

-- n coefficients 0
abbrev pub zeros : ℕ → List ℕ
zeros n = replicate n 0

-- the modulus of the field, x^8 + x^4 + x^3 + x^2 + 1
abbrev pub field_modulus : ℕ
field_modulus = 0x11D

-- the coefficients of the generator polynomial below its highest, and zeros up to 32 places
unfoldable pub padded_generator : ℕ → List ℕ
padded_generator k = drop 1 (generator k) ++ zeros (32 - k)

-- a table of the multiples of a polynomial by the elements 0 to 15
abbrev pub AreMultiples : List ℕ → List (List ℕ) → Type 0
AreMultiples polynomial table = (i : ℕ) → i < 16 → slice_index_or table i [] ≡ scalar_multiple i polynomial

-- the register of a division by x^k + low after one more codeword: the highest codeword and the new codeword
-- are fed back (the encoding circuit of 7.5.2)
unfoldable pub next_register : (low register : List ℕ) → ℕ → List ℕ
next_register low register codeword =
    polynomial_sum (drop 1 register ++ 0 ∷ []) (scalar_multiple (bit_xor (slice_index register 0) codeword) low)

-- the register after all codewords
unfoldable pub register_after : (low register codewords : List ℕ) → List ℕ
register_after low register [] = register
register_after low register (codeword ∷ codewords) = register_after low (next_register low register codeword) codewords
