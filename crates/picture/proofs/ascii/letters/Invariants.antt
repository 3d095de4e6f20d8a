use Rattle.std.proofs.Common.{◌≡◌, ◌-◌, ◌*◌, ◌++◌, flat_map, take}
use Rattle.std.proofs.Math.ListN.{replicate}
use Rattle.picture.specs.Text.{ascii_pixel}
use Rattle.picture.proofs.ascii.letters.Given as goal

-- the letters so far, and spaces
abbrev pub invariant-loop-i : goal.invariant-loop-i
invariant-loop-i l = record {
  so_far : l.text ≡ flat_map ascii_pixel (take l.i l.pixels)
      ++ replicate (70 - 2 * l.i) 32;
}
