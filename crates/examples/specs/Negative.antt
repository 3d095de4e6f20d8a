-- A picture with dark and light exchanged.
use Rattle.std.specs.Prelude.{not}
use Rattle.picture.specs.Picture.{Picture}

-- dark where the picture is light, and light where it is dark
abbrev pub negative : Picture → Picture
negative p = record { width = p.width; height = p.height; dark = λ x y. not (p.dark x y) }
