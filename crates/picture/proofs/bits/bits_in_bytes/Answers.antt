use Rattle.std.proofs.Common.{◌≡◌, ◌/◌, ◌%◌, ◌^◌, ◌*◌, ◌∷◌, ◌++◌, ◌∙◌, ℕ, List, map, drop, ap, sym}
use Rattle.std.proofs.Math.Nat.{div-one}
use Rattle.std.specs.Prelude.{bit_and}
use Rattle.std.specs.Simd.Lanes.{pick_l, zip2}
use Rattle.picture.specs.Text.{below}
use Rattle.picture.specs.declared.bits.TheConstants.{BYTES, VALUES}
use Rattle.picture.proofs.bits.bits_in_bytes.Goals as goal

-- the bytes of a row, the lowest first
bytes : ℕ → List ℕ
bytes row = map (λ q. row / 2 ^ (8 * q) % 256) (below 8)

pub returns : goal.returns
unfolding bytes
returns c =
    let row = c.args.row in
    let first : row % 256 ≡ row / 2 ^ 0 % 256 = ap (λ n. n % 256) (sym (div-one row)) in
    ap (λ (eight : List ℕ). zip2 bit_and (pick_l 0 (eight ++ eight) BYTES) VALUES)
    (c.to_le_bytes.ensures ∙ ap (λ (byte : ℕ). byte ∷ drop 1 (bytes row)) first)
