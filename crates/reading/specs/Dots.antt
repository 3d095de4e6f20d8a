-- Dots that are read as pixels: bytes, of which one is dark, and bits.
-- Why: `bytes_picture`, `bytes_read`, `bits_picture`: the digits of plain PBM, and the bits of PBM and PNG.
use Rattle.std.specs.Prelude.{ℕ, ◌+◌, ◌-◌, ◌*◌, ◌/◌, ◌%◌, ◌==◌, ◌&&◌, ◌||◌, Bool, List, Option, length, nat_le, slice_index}
use Rattle.std.specs.Bool.{beq, then_some}
use Rattle.std.specs.Int.{div_ceil}
use Rattle.std.specs.List.{list_all}
use Rattle.qrmatrix.specs.Bits.{bit}
use Rattle.picture.specs.Picture.{Picture}
use Rattle.reading.specs.declared.bits.BitRegion.{BitRegion}

-- the picture of width times height bytes, row by row
abbrev pub bytes_picture : (width height dark : ℕ) → List ℕ → Picture
bytes_picture width height dark bytes = record {
  width = width;
  height = height;
  dark = λ x y. slice_index bytes (y * width + x) == dark;
}

-- the same; none where there are more bytes or fewer, or one is neither of these two
abbrev pub bytes_read : (light dark width height : ℕ) → List ℕ → Option Picture
bytes_read light dark width height bytes =
    then_some (list_all (λ b. b == light || b == dark) bytes && length bytes == width * height)
    (bytes_picture width height dark bytes)

-- how many bytes a row has up to the end of a region
abbrev pub row_end : BitRegion → ℕ
row_end r = div_ceil (r.left + r.width) 8

-- whether the rows of a region do not overlap, and its last one ends within so many bytes
abbrev pub is_inside : BitRegion → ℕ → Bool
is_inside r size = nat_le (row_end r) r.stride && nat_le ((r.top + r.height - 1) * r.stride + row_end r) size

-- the picture of a region: the first dot of a row of bits is the highest bit of its first byte
abbrev pub bits_picture : BitRegion → List ℕ → Picture
bits_picture r bytes = record {
  width = r.width;
  height = r.height;
  dark = λ x y. beq (bit (slice_index bytes ((r.top + y) * r.stride + (r.left + x) / 8)) (7 - (r.left + x) % 8)) r.dark;
}
