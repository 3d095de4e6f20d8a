-- Reading inverts drawing.
use Rattle.std.proofs.Common.{◌≡◌, ℕ, ◌<◌, ◌≤◌, refl, sym, ap, ◌∙◌, Bool, true, false, cond, List}
use Rattle.std.proofs.Common.{[], ◌∷◌, length, Option, Some, eq-eqb, arith, inl, inr}
use mathlib.Core.Bool.{xor}
use Rattle.std.specs.Bool.{beq}
use Rattle.std.specs.Prelude.{◌==◌, not, find, is_none, option_map, unwrap_or, map, nat_lt, reverse, All}
use Rattle.std.specs.List.{range_with_len, filter, list_all}
use Rattle.std.proofs.lemmas.Bool.{and_from, and_parts, cases_lt, lt-leb, lt-ltb, ltb-true}
use Rattle.std.proofs.lemmas.Bool.Decides.{nat_tests}
use Rattle.labelcore.specs.declared.level.Level.{Level}
use Rattle.qrmatrix.specs.Functions.{Role, Format, Version, is_free, role, fixed_module}
use Rattle.qrmatrix.specs.Functions.{module_of_role}
use Rattle.qrdata.specs.Bits.{number_of, codewords_of}
use Rattle.qrdata.specs.Versions.{side_of, total_codewords}
use Rattle.qrmatrix.specs.Bits.{bit}
use Rattle.qrmatrix.specs.Information.{format_information, version_information}
use Rattle.qrmatrix.specs.Modules.{module_at, is_inside}
use Rattle.qrmatrix.specs.Masks.{is_flipped}
use Rattle.qrmatrix.specs.Placement.{codeword_bit, rank, remainder_bits}
use Rattle.qrmatrix.specs.Reading.{walk, read_bits, read_matrix, format_copy_1, format_copy_2, version_copy_1}
use Rattle.qrmatrix.specs.Reading.{version_copy_2, information_at, read_format, shows_version, shows_functions}
use Rattle.labelcore.proofs.Laws.ComputedLaws.{by_version, passes}
use Rattle.qrmatrix.proofs.Laws.RowBitsLaws.{same_beq}
use Rattle.qrmatrix.proofs.Laws.SumLaws.{list_all-range}
use Rattle.qrmatrix.proofs.Laws.VersionLaws.{is_walked, room, walked}
use Rattle.qrmatrix.proofs.Laws.WalkLaws.{walk_ranks}
use Rattle.qrmatrix.proofs.Laws.CodewordBitLaws.{codewords_of-codeword_bits}
use Rattle.qrmatrix.proofs.Laws.InformationReadingLaws.{Copies, FormatReading, VersionReading, format_copies, format_read}
use Rattle.qrmatrix.proofs.Laws.InformationReadingLaws.{respelled, roles_at, roles_of}
use Rattle.qrmatrix.proofs.Laws.InformationReadingLaws.{version_copies, version_read}

-- ---- the bits of the codewords

map_filter_step : {X Y : Type 0} (b : Bool) (f g : X → Y) (x : X) (ys : List X) → (b ≡ true → f x ≡ g x)
    → map f ys ≡ map g ys
    → map f (cond b (x ∷ ys) ys) ≡ map g (cond b (x ∷ ys) ys)
map_filter_step true f g x ys h e = let k = h refl in cc
map_filter_step false f g x ys h e = e

pub map_filter : {X Y : Type 0} (test inside : X → Bool) (f g : X → Y)
    → ((x : X) → inside x ≡ true → test x ≡ true → f x ≡ g x) → (xs : List X)
    → list_all inside xs ≡ true → map f (filter test xs) ≡ map g (filter test xs)
map_filter test inside f g h [] i = refl
map_filter test inside f g h (x ∷ xs) i =
    let parts = and_parts (inside x) (list_all inside xs) i in
    map_filter_step (test x) f g x (filter test xs) (h x parts.0) (map_filter test inside f g h xs parts.1)

-- two lists whose items are related by two functions are related by two others
map_related : {X Y A B : Type 0} (h : X → A) (k : Y → A) (f : X → B) (g : Y → B)
    → ((x : X) (y : Y) → h x ≡ k y → f x ≡ g y) → (xs : List X) (ys : List Y) → map h xs ≡ map k ys
    → map f xs ≡ map g ys
map_related h k f g each [] [] e = refl
map_related h k f g each [] (y ∷ ys) e = cc
map_related h k f g each (x ∷ xs) [] e = cc
map_related h k f g each (x ∷ xs) (y ∷ ys) e =
    let here : h x ≡ k y = cc in
    let first = each x y here in
    let there : map h xs ≡ map k ys = cc in
    let rest = map_related h k f g each xs ys there in
    cc

map_map : {X Y Z : Type 0} (f : Y → Z) (g : X → Y) (xs : List X) → map (λ x. f (g x)) xs ≡ map f (map g xs)
map_map f g [] = refl
map_map f g (x ∷ xs) = ap (λ ys. f (g x) ∷ ys) (map_map f g xs)

flip_twice : (b d : Bool) → xor b (xor b d) ≡ d
unfolding xor
flip_twice b d = grind arith

pub free_is_data : (v : ℕ) (level : Level) (mask : ℕ) (r : Option Role) (d : Bool) → is_none r ≡ true
    → unwrap_or (option_map (module_of_role v level mask) r) d ≡ d
free_is_data v level mask r d h = grind arith

pub inside_from : (n x y : ℕ) → x < n → y < n → is_inside n x y ≡ true
inside_from n x y lx ly = and_from (nat_lt x n) (nat_lt y n) (lt-ltb x n lx) (lt-ltb y n ly)

-- the version of a side
version_by_side : (v : ℕ) → 1 ≤ v → v ≤ 10 → find (λ w. side_of w == side_of v) (range_with_len 1 10) ≡ Some v
version_by_side = by_version (λ v. find (λ w. side_of w == side_of v) (range_with_len 1 10)) Some refl

module _ (v : ℕ) (level : Level) (mask : ℕ) (codewords : List ℕ) where
  -- a module in the square
  pub module_inside : (x y : ℕ) → is_inside (side_of v) x y ≡ true
      → module_at v level mask codewords x y
      ≡ unwrap_or (fixed_module v level mask x y) (xor (is_flipped mask x y) (codeword_bit codewords (rank v x y)))
  unfolding module_at
  module_inside x y h = rw h

  -- a place outside the square
  pub module_outside : (x y : ℕ) → is_inside (side_of v) x y ≡ false → module_at v level mask codewords x y ≡ false
  unfolding module_at
  module_outside x y h = rw h

  unmasked : (p : ℕ × ℕ) → is_inside (side_of v) p.0 p.1 ≡ true → is_free v p.0 p.1 ≡ true
      → xor (is_flipped mask p.0 p.1) (module_at v level mask codewords p.0 p.1)
      ≡ codeword_bit codewords (rank v p.0 p.1)
  unfolding is_free fixed_module
  unmasked p i h =
      rw (
        module_inside p.0 p.1 i,
        free_is_data v level mask (role v p.0 p.1)
            (xor (is_flipped mask p.0 p.1) (codeword_bit codewords (rank v p.0 p.1))) h,
      )
      (flip_twice (is_flipped mask p.0 p.1) (codeword_bit codewords (rank v p.0 p.1)))

  pub bits_read : 1 ≤ v → v ≤ 10 → read_bits v mask (module_at v level mask codewords)
      ≡ map (codeword_bit codewords) (range_with_len 0 (room v))
  unfolding read_bits
  bits_read l h =
      map_filter (λ (p : ℕ × ℕ). is_free v p.0 p.1) (is_walked (side_of v))
      (λ (p : ℕ × ℕ). xor (is_flipped mask p.0 p.1) (module_at v level mask codewords p.0 p.1))
      (λ (p : ℕ × ℕ). codeword_bit codewords (rank v p.0 p.1))
      (λ p i. unmasked p (and_parts (is_inside (side_of v) p.0 p.1) (not (p.0 == 6)) i).0) (walk (side_of v))
      (walked v l h)
      ∙ map_map (codeword_bit codewords) (λ (p : ℕ × ℕ). rank v p.0 p.1)
      (filter (λ (p : ℕ × ℕ). is_free v p.0 p.1) (walk (side_of v)))
      ∙ ap (map (codeword_bit codewords)) (walk_ranks v l h)

  pub codewords_of-read_bits : 1 ≤ v → v ≤ 10 → length codewords ≡ total_codewords v → All (λ w. w < 256) codewords
      → codewords_of (total_codewords v) (read_bits v mask (module_at v level mask codewords)) ≡ codewords
  codewords_of-read_bits l h n bytes =
      rw (bits_read l h, ← n) (codewords_of-codeword_bits codewords (remainder_bits v) bytes)

  -- ---- the function patterns

  pub functions_shown : shows_functions v level mask (module_at v level mask codewords) ≡ true
  unfolding shows_functions
  functions_shown =
      list_all-range 0 (side_of v) (λ y. list_all (λ x. beq (unwrap_or (fixed_module v level mask x y)
      (module_at v level mask codewords x y)) (module_at v level mask codewords x y)) (range_with_len 0 (side_of v)))
      (λ y ly. list_all-range 0 (side_of v) (λ x. beq (unwrap_or (fixed_module v level mask x y)
      (module_at v level mask codewords x y)) (module_at v level mask codewords x y))
      (λ x lx. rw (module_inside x y (inside_from (side_of v) x y (omega arith) (omega arith)))
      (grind arith)))

module _ (v : ℕ) (level : Level) (mask : ℕ) (m : ℕ → ℕ → Bool) (shown : shows_functions v level mask m ≡ true) where
  -- each module that a pattern has
  pub fixed_at : (x y : ℕ) → is_inside (side_of v) x y ≡ true → m x y ≡ unwrap_or (fixed_module v level mask x y) (m x y)
  unfolding shows_functions
  fixed_at x y inside =
      let places = range_with_len 0 (side_of v) in
      let test : ℕ → ℕ → Bool = λ x y. beq (unwrap_or (fixed_module v level mask x y) (m x y)) (m x y) in
      let parts = and_parts (nat_lt x (side_of v)) (nat_lt y (side_of v)) inside in
      sym (same_beq _ _ (passes (λ x. test x y) (side_of v) x
      (passes (λ y. list_all (λ x. test x y) places) (side_of v) y shown (ltb-true y (side_of v) parts.1))
      (ltb-true x (side_of v) parts.0)))

  -- the number at places where its bits have their roles
  information_at-shown : (places : List (ℕ × ℕ)) (kind : ℕ → Role) (information count : ℕ)
      → ((i : ℕ) → module_of_role v level mask (kind i) ≡ bit information i) → roles_at v places ≡ roles_of kind count
      → information_at m places ≡ respelled count information
  unfolding fixed_module
  information_at-shown places kind information count by roles =
      ap (λ bits. number_of (reverse bits))
      (map_related (λ (p : ℕ × ℕ). (role v p.0 p.1, is_inside (side_of v) p.0 p.1)) (λ i. (Some (kind i), true))
      (λ (p : ℕ × ℕ). m p.0 p.1) (bit information)
      (λ p i e. fixed_at p.0 p.1 (ap (λ (r : Option Role × Bool). r.1) e)
      ∙ rw (ap (λ (r : Option Role × Bool). r.0) e) (by i)) places (range_with_len 0 count) roles)

  module _ (at_least : 1 ≤ v) (at_most : v ≤ 10) (mask_below : mask < 8) where
    pub format_shown : read_format (side_of v) m ≡ Some (level, mask)
    unfolding read_format
    format_shown =
        let information = format_information level mask in
        let copies = format_copies v at_least at_most in
        let one = information_at-shown format_copy_1 Format information 15 (λ i. refl)
        (ap (λ (c : Copies). c.first) copies) in
        let two = information_at-shown (format_copy_2 (side_of v)) Format information 15 (λ i. refl)
        (ap (λ (c : Copies). c.second) copies) in
        let read = format_read level mask mask_below in
        let number = ap (λ (r : FormatReading). r.number) read in
        rw (one, two, number, eq-eqb information information refl) (ap (λ (r : FormatReading). r.read) read)

    pub version_is_shown : shows_version v (side_of v) m ≡ true
    unfolding shows_version
    version_is_shown =
        elim (cases_lt v 7) [
          | inl below ↦ rw (lt-leb 7 v below) refl
          | inr from ↦
              let information = version_information v in
              let copies = version_copies v from at_most in
              let one = information_at-shown (version_copy_1 (side_of v)) Version information 18 (λ i. refl)
              (ap (λ (c : Copies). c.first) copies) in
              let two = information_at-shown (version_copy_2 (side_of v)) Version information 18 (λ i. refl)
              (ap (λ (c : Copies). c.second) copies) in
              let read = version_read v from at_most in
              let number = ap (λ (r : VersionReading). r.number) read in
              let rest = ap (λ (r : VersionReading). r.remainder) read in
              let version = ap (λ (r : VersionReading). r.version) read in
              rw (one, two, number, rest, version) (grind (arith, nat_tests))
        ]

module _ (v : ℕ) (level : Level) (mask : ℕ) (codewords : List ℕ) where
  module _ (at_least : 1 ≤ v) (at_most : v ≤ 10) (mask_below : mask < 8) where
    pub reads_back : length codewords ≡ total_codewords v → All (λ w. w < 256) codewords
        → read_matrix (side_of v) (module_at v level mask codewords)
        ≡ Some (record { version = v; level = level; codewords = codewords })
    unfolding read_matrix
    reads_back n h =
        let shown = functions_shown v level mask codewords in
        rw (
          version_by_side v at_least at_most,
          format_shown v level mask (module_at v level mask codewords) shown at_least at_most mask_below,
          version_is_shown v level mask (module_at v level mask codewords) shown at_least at_most mask_below,
          shown,
          codewords_of-read_bits v level mask codewords at_least at_most n h,
        )
