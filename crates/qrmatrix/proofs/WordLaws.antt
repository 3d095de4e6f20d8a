-- What operations on whole rows say of the line of modules in a row, for words of any width.
use Rattle.std.proofs.Common.{◌≡◌, ℕ, ◌+◌, ◌-◌, ◌∙◌, arith, Bool, false, not, refl, ◌&&◌, ◌||◌, sym}
use Rattle.std.specs.Bool.{beq}
use mathlib.Core.Logic.{◌≢◌}
use Rattle.std.proofs.lemmas.Bool.{ne_eqb}
use Rattle.qrmatrix.specs.Penalty.{begins_run, is_one_colour, is_uniform, shows_finder}
use Rattle.qrmatrix.specs.Private.PenaltyParts.{finder_from, light_from}
use Rattle.qrmatrix.proofs.FinderLaws.{shows_finder-parts}
use Rattle.qrmatrix.proofs.WindowLaws.{five_equal}

pub same_where_not_different : (a b : Bool) → not (not (beq b a)) ≡ beq b a
same_where_not_different a b = grind arith

-- five modules are of one colour where none of four changes is there
pub uniform_is : (line changes moved two moved_two four : ℕ → Bool)
    → ((i : ℕ) → changes i ≡ not (beq (line i) (line (i + 1))))
    → ((i : ℕ) → moved i ≡ changes (i + 1))
    → ((i : ℕ) → two i ≡ (changes i || moved i))
    → ((i : ℕ) → moved_two i ≡ two (i + 2))
    → ((i : ℕ) → four i ≡ (two i || moved_two i))
    → (i : ℕ) → not (four i) ≡ is_uniform line i 5
uniform_is line changes moved two moved_two four change is_moved is_two is_moved_two is_four i =
    rw (
      is_four i,
      is_moved_two i,
      is_two i,
      is_two (i + 2),
      is_moved i,
      is_moved (i + 2),
      change i,
      change (i + 1),
      change (i + 2),
      change (i + 2 + 1),
    )
    (grind arith)

-- a finder pattern: a dark module, then two changes, two places without one, and two changes
pub finders_are : (line changes moved two one moved_one moved_two : ℕ → Bool)
    → ((i : ℕ) → changes i ≡ not (beq (line i) (line (i + 1))))
    → ((i : ℕ) → moved i ≡ changes (i + 1))
    → ((i : ℕ) → two i ≡ (changes i && moved i))
    → ((i : ℕ) → one i ≡ (changes i || moved i))
    → ((i : ℕ) → moved_one i ≡ one (i + 2))
    → ((i : ℕ) → moved_two i ≡ two (i + 4))
    → (i : ℕ) → (((line i && two i) && not (moved_one i)) && moved_two i) ≡ finder_from line i
finders_are line changes moved two one moved_one moved_two change is_moved is_two is_one is_moved_one is_moved_two i =
    rw (
      is_moved_one i,
      is_moved_two i,
      is_two i,
      is_two (i + 4),
      is_one (i + 2),
      is_moved i,
      is_moved (i + 2),
      is_moved (i + 4),
      change i,
      change (i + 1),
      change (i + 2),
      change (i + 2 + 1),
      change (i + 4),
      change (i + 4 + 1),
    )
    (grind arith)

-- one of four modules is dark
pub dark_is : (line moved two moved_two : ℕ → Bool)
    → ((i : ℕ) → moved i ≡ line (i + 1))
    → ((i : ℕ) → two i ≡ (line i || moved i))
    → ((i : ℕ) → moved_two i ≡ two (i + 2))
    → (i : ℕ) → (two i || moved_two i) ≡ not (light_from line i)
dark_is line moved two moved_two is_moved is_two is_moved_two i =
    rw (is_moved_two i, is_two i, is_two (i + 2), is_moved i, is_moved (i + 2)) (grind arith)

-- a module that is not dark is light
not_dark : (f l g r : Bool) → ((f && not (not l)) || (g && not (not r))) ≡ ((f && l) || (r && g))
not_dark f l g r = grind arith

-- a window looks like a finder pattern: one with four light modules after it or before it
pub finder_windows_are : (line finders dark moved_dark moved : ℕ → Bool) (i : ℕ)
    → finders i ≡ finder_from line i
    → finders (i + 4) ≡ finder_from line (i + 4)
    → dark i ≡ not (light_from line i)
    → dark (i + 7) ≡ not (light_from line (i + 7))
    → moved_dark i ≡ dark (i + 7)
    → moved i ≡ finders (i + 4)
    → ((finders i && not (moved_dark i)) || (moved i && not (dark i))) ≡ shows_finder line i
finder_windows_are line finders dark moved_dark moved i here above is_dark far is_moved_dark is_moved =
    rw (is_moved_dark, is_moved, here, above, is_dark, far) (not_dark _ _ _ _) ∙ sym (shows_finder-parts line i)

-- each window of the first row begins a run
pub first_row : (line : ℕ → Bool) (y : ℕ) (b : Bool) → y ≡ 0 → b ≡ false → not b ≡ begins_run line y
first_row line y b first none = rw (none, first) refl

-- a window of a later row begins a run where the module above it differs
pub later_row : (line : ℕ → Bool) (y : ℕ) (above here : Bool) → y ≢ 0 → above ≡ line (y - 1) → here ≡ line y
    → not (beq above here) ≡ begins_run line y
later_row line y above here later is_above is_here = rw (is_above, is_here, ne_eqb y 0 later) refl

-- five rows have one colour at a place
pub five_rows : (line : ℕ → Bool) (y : ℕ) (a b c d e : Bool)
    → a ≡ line y → b ≡ line (y + 1) → c ≡ line (y + 2) → d ≡ line (y + 3) → e ≡ line (y + 4)
    → (((beq b a && beq c a) && beq d a) && beq e a) ≡ is_uniform line y 5
five_rows line y a b c d e first second third fourth fifth =
    rw (first, second, third, fourth, fifth) (sym (five_equal line y))

-- four modules have one colour
pub square_is : (m : ℕ → ℕ → Bool) (x y : ℕ) (here right below far : Bool)
    → here ≡ m x y → right ≡ m (x + 1) y → below ≡ m x (y + 1) → far ≡ m (x + 1) (y + 1)
    → (beq right here && (beq below here && beq far here)) ≡ is_one_colour m y x
square_is m x y here right below far is_here is_right is_below is_far = rw (is_here, is_right, is_below, is_far) refl
