-- Lists of bits, and the numbers that they represent.
use Rattle.std.proofs.Common.{◌≡◌, ℕ, suc, ◌+◌, ◌*◌, ◌%◌, ◌^◌, ◌<◌, ◌≤◌, List, [], ◌∷◌, Bool, true, false}
use Rattle.std.proofs.Common.{length, arith, ◌∙◌}
use Rattle.std.proofs.Math.Nat.{pow-suc}
use Rattle.std.proofs.Math.Pow.{pow_mono}
use Rattle.std.specs.Int.{from_bool}
use Rattle.std.specs.List.{fold}
use Rattle.qrdata.specs.Bits.{number_of}

-- the number of bits before these, and theirs
abbrev pub folded : ℕ → List Bool → ℕ
folded n bits = fold (λ number bit. 2 * (number % 32768) + from_bool bit) n bits

whole : (n k length_after : ℕ) → n < 2 ^ k → k + suc length_after ≤ 16 → n % 32768 ≡ n
whole n k length_after low few =
    let fits : k ≤ 15 = omega (arith, few) in omega (arith, low, pow_mono fits)

-- twice a number and a bit, before more bits
twice : (n bit l : ℕ) → (2 * n + bit) * 2 ^ l ≡ n * 2 ^ suc l + bit * 2 ^ l
twice n bit l = rw (pow-suc 2 l) (omega arith)

fold_more : (bits : List Bool) (n k : ℕ) → n < 2 ^ k → k + length bits ≤ 16
    → folded n bits ≡ n * 2 ^ length bits + number_of bits
unfolding number_of
fold_more [] n k low few = omega arith
fold_more (true ∷ bits) n k low few =
    rw (whole n k (length bits) low few, fold_more bits (2 * n + 1) (suc k) (omega (arith, low)) (omega (arith, few)))
    (omega (arith, twice n 1 (length bits)))
fold_more (false ∷ bits) n k low few =
    rw (whole n k (length bits) low few, fold_more bits (2 * n + 0) (suc k) (omega (arith, low)) (omega (arith, few)))
    (omega (arith, twice n 0 (length bits)))

pub fold_bits : (bits : List Bool) → length bits ≤ 16
    → folded 0 bits ≡ number_of bits
fold_bits bits few = fold_more bits 0 0 (omega arith) (omega (arith, few)) ∙ omega arith
