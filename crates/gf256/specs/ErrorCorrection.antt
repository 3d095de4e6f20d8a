-- The error correction codewords of a block, and what wrong codewords they guard against (ISO/IEC 18004, 7.5.1, 7.5.2 and
-- annex A).
-- Why: `wrong_codewords`, `IsGuarded`: 7.5.1, the errors that are detected and corrected.
use Rattle.std.specs.Prelude.{◌≡◌, ◌<◌, ◌≤◌, ℕ, zero, suc, ◌+◌, ◌*◌, ◌==◌, if◌then◌else◌, List, [], ◌∷◌, ◌++◌, length}
use Rattle.std.specs.Prelude.{drop, replicate, All}
use Rattle.gf256.specs.Field.{alpha, field_power, IsElement}
use Rattle.gf256.specs.Polynomial.{scalar_multiple, evaluate, polynomial_sum, polynomial_product}

-- the generator polynomial of k codewords: the product of x + alpha^i over the i below k
unfoldable pub generator : ℕ → List ℕ
generator zero = 1 ∷ []
generator (suc k) = polynomial_product (1 ∷ field_power alpha k ∷ []) (generator k)

-- what n steps of a long division by x^k + low leave: each cancels the highest term by adding the multiple of the
-- divisor that has it
unfoldable pub remainder_of : (low : List ℕ) (n : ℕ) → List ℕ → List ℕ
remainder_of low zero p = p
remainder_of low (suc n) [] = []
remainder_of low (suc n) (c ∷ p) = remainder_of low n (polynomial_sum (scalar_multiple c low ++ replicate n 0) p)

-- the k error correction codewords of a block: the remainder of the message times x^k by the generator
unfoldable pub ec_codewords_of : ℕ → List ℕ → List ℕ
ec_codewords_of k message = remainder_of (drop 1 (generator k)) (length message) (message ++ replicate k 0)

-- there are k error correction codewords, and for some quotient the message times x^k is the quotient times the
-- generator plus the error correction codewords
pub record IsRemainder (k : ℕ) (message ec_codewords : List ℕ) : Type 0 where
  pub quotient : List ℕ
  pub quotient_elements : All IsElement quotient
  pub quotient_length : length quotient ≡ length message
  pub ec_codewords_length : length ec_codewords ≡ k
  pub ec_codewords_elements : All IsElement ec_codewords
  pub division :
      message ++ replicate k 0
      ≡ polynomial_sum (polynomial_product quotient (generator k)) (replicate (length message) 0 ++ ec_codewords)

-- the polynomial is 0 at alpha^i for each i below k: it is a multiple of the generator
abbrev pub HasRoots : (k : ℕ) → List ℕ → Type 0
HasRoots k p = (i : ℕ) → i < k → evaluate p (field_power alpha i) ≡ 0

-- a block has 1 to 30 error correction codewords
abbrev pub IsEcCodewordCount : ℕ → Type 0
IsEcCodewordCount k = (1 ≤ k) × (k ≤ 30)

-- how many codewords of a block differ from those of another one of its length
unfoldable pub wrong_codewords : List ℕ → List ℕ → ℕ
wrong_codewords [] other = 0
wrong_codewords (a ∷ block) [] = 0
wrong_codewords (a ∷ block) (b ∷ other) = (if a == b then 0 else 1) + wrong_codewords block other

-- Of a whole block with k error correction codewords, and of all blocks of its length: one with 1 to k wrong codewords
-- is no multiple of the generator. And where at most half of k codewords were seen wrong, no other multiple of the
-- generator is that near to what was seen: who corrects that few finds this block.
pub record IsGuarded (k : ℕ) (whole : List ℕ) : Type 0 where
  pub detects : (other : List ℕ) → length other ≡ length whole → All IsElement other
      → 0 < wrong_codewords whole other → wrong_codewords whole other ≤ k → HasRoots k other → ⊥
  pub corrects : (seen other : List ℕ) → length seen ≡ length whole → length other ≡ length whole → All IsElement other
      → 2 * wrong_codewords whole seen ≤ k → 2 * wrong_codewords other seen ≤ k → HasRoots k other → other ≡ whole

-- the error correction codewords of a block: the only remainder by the generator, which makes the block a multiple of
-- it, and guards a block of at most 255 codewords
pub record AreEcCodewords (k : ℕ) (block ec_codewords : List ℕ) : Type 0 where
  pub value : ec_codewords ≡ ec_codewords_of k block
  pub remainder : IsRemainder k block ec_codewords
  pub only : (others : List ℕ) → IsRemainder k block others → others ≡ ec_codewords
  pub roots : HasRoots k (block ++ ec_codewords)
  pub guarded : length block + k ≤ 255 → IsGuarded k (block ++ ec_codewords)
