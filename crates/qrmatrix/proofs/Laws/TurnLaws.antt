-- A symbol that is turned is not read. From version 2 on a light module of the alignment pattern in the lower right
-- corner is where a finder pattern is dark (ISO/IEC 18004, 6.3.3 and 6.3.6). In version 1 a finder pattern lies where the
-- data begins, and no data begins so (7.4.3 to 7.4.5 and 7.8.2).
use Rattle.std.proofs.Common.{◌≡◌, ℕ, zero, suc, ◌-◌, ◌<◌, ◌≤◌, Bool, true, false, Option, Some, None, refl, sym, ap}
use Rattle.std.proofs.Common.{◌∙◌, arith, List, [], ◌∷◌, ◌++◌, map, take, drop, length, get_or, subst, inl, inr, ◌&&◌}
use Rattle.std.specs.Prelude.{unwrap_or, nat_lt}
use Rattle.std.specs.Bool.{beq}
use Rattle.std.specs.Cmp.{booleans_Decides}
use Rattle.std.specs.List.{filter, list_all}
use Rattle.std.specs.Option.{option_map}
use mathlib.Core.Bool.{xor}
use Rattle.std.proofs.lemmas.Bool.{and_parts, cases_lt, false≢true, ltb-true}
use Rattle.std.proofs.lemmas.List.Elements.{All-from_recursion}
use Rattle.labelcore.specs.declared.level.Level.{Level}
use Rattle.qrdata.specs.Bits.{bits_of, codewords_of}
use Rattle.qrdata.specs.Reading.{data_in, segments_at}
use Rattle.qrdata.specs.Versions.{side_of, total_codewords}
use Rattle.qrdata.proofs.Laws.BeginningLaws.{no_mode, too_many, unread_beginning}
use Rattle.qrmatrix.specs.Functions.{Role, Function, fixed_module, is_free, module_of_role, role}
use Rattle.qrmatrix.specs.Masks.{is_flipped}
use Rattle.qrmatrix.specs.Reading.{Reading, IsUpright, other_positions, read_bits, read_matrix}
use Rattle.qrmatrix.specs.Reading.{read_square, shows_functions, walk}
use Rattle.labelcore.proofs.Laws.ComputedLaws.{passes, same_at}
use Rattle.qrmatrix.proofs.Laws.FoundLaws.{IsReading, IsReading-of}
use Rattle.qrmatrix.proofs.Laws.MirrorLaws.{unread_in_mirrors}

-- a symbol that is read shows its function patterns
shown : (n : ℕ) (m : ℕ → ℕ → Bool) (r : Reading) (is : IsReading n m r) (x y : ℕ) (dark : Bool) → x < n → y < n
    → role is.version x y ≡ Some (Function dark) → m x y ≡ dark
unfolding shows_functions fixed_module
shown n m r is x y dark wide high of_role =
    let v = is.version in
    let here = passes (λ x. beq (unwrap_or (fixed_module v is.format.0 is.format.1 x y) (m x y)) (m x y)) (side_of v) x
    (passes _ (side_of v) y is.functions (omega (arith, is.side, high))) (omega (arith, is.side, wide)) in
    sym ((booleans_Decides dark (m x y)).0 (subst (λ (o : Option Role).
    beq (unwrap_or (option_map (module_of_role v is.format.0 is.format.1) o) (m x y)) (m x y) ≡ true) of_role here))

abbrev roles : ℕ → List (ℕ × ℕ) → List (Option Role)
roles v places = map (λ (p : ℕ × ℕ). role v p.0 p.1) places

abbrev roles_of : List Bool → List (Option Role)
roles_of modules = map (λ dark. Some (Function dark)) modules

-- a light module of the alignment pattern, and the dark modules of finder patterns that turning lays on it
corner_roles : (v : ℕ) → 2 ≤ v → v ≤ 10
    → roles v ((side_of v - 6, side_of v - 7) ∷ (5, 6) ∷ (6, side_of v - 6) ∷ (side_of v - 7, 5) ∷ (6, 5) ∷ [])
    ≡ roles_of (false ∷ true ∷ true ∷ true ∷ true ∷ [])
unfolding role
corner_roles v l h =
    same_at 2 9 (λ v. roles v ((side_of v - 6, side_of v - 7) ∷ (5, 6) ∷ (6, side_of v - 6) ∷ (side_of v - 7, 5)
    ∷ (6, 5) ∷ [])) (λ v. roles_of (false ∷ true ∷ true ∷ true ∷ true ∷ [])) refl v l (omega (arith, h))

-- what a module of the finder pattern's edge and one within it are
edge_roles : (v : ℕ) → 1 ≤ v → v ≤ 10 → roles v ((1, 0) ∷ (1, 1) ∷ []) ≡ roles_of (true ∷ false ∷ [])
unfolding role
edge_roles v l h =
    same_at 1 10 (λ v. roles v ((1, 0) ∷ (1, 1) ∷ [])) (λ v. roles_of (true ∷ false ∷ [])) refl v l (omega (arith, h))

-- the role of one place
abbrev at : {xs ys : List (Option Role)} (i : ℕ) → xs ≡ ys → get_or xs i None ≡ get_or ys i None
at i e = ap (λ l. get_or l i None) e

-- a turned symbol whose dark module is the light one is not read
module _ (n : ℕ) (m other : ℕ → ℕ → Bool) (r : Reading) (read : read_matrix n m ≡ Some r) (large : 25 ≤ n) where
  unread : (place : ℕ → ℕ × ℕ)
      → ((v : ℕ) → 2 ≤ v → v ≤ 10 → role v (place (side_of v)).0 (place (side_of v)).1 ≡ Some (Function true))
      → (place n).0 < n → (place n).1 < n → other (place n).0 (place n).1 ≡ m (n - 6) (n - 7)
      → read_matrix n other ≡ None
  unread place dark wide high same = found (read_matrix n other) refl
    where
      found : (o : Option Reading) → read_matrix n other ≡ o → read_matrix n other ≡ None
      found None is = is
      found (Some s) is =
          let one = IsReading-of n m r read in
          let two = IsReading-of n other s is in
          let light = at 0 (corner_roles one.version (omega (arith, large, one.side)) one.most) in
          let here : m (n - 6) (n - 7) ≡ false =
          shown n m r one (n - 6) (n - 7) false (omega (arith, large)) (omega (arith, large))
          (subst (λ k. role one.version (k - 6) (k - 7) ≡ Some (Function false)) one.side light) in
          let there : other (place n).0 (place n).1 ≡ true =
          shown n other s two (place n).0 (place n).1 true wide high
          (subst (λ k. role two.version (place k).0 (place k).1 ≡ Some (Function true)) two.side
          (dark two.version (omega (arith, large, two.side)) two.most)) in
          absurd (false≢true (sym here ∙ sym same ∙ there))

-- from version 2 on turned modules are no symbol, nor are those in a mirror along the other diagonal
unread_from_25 : (n : ℕ) (m : ℕ → ℕ → Bool) (r : Reading) → read_matrix n m ≡ Some r → 25 ≤ n
    → (read_matrix n (λ x y. m (n - 1 - x) (n - 1 - y)) ≡ None) × (read_matrix n (λ x y. m y (n - 1 - x)) ≡ None)
    × (read_matrix n (λ x y. m (n - 1 - y) x) ≡ None) × (read_matrix n (λ x y. m (n - 1 - y) (n - 1 - x)) ≡ None)
unread_from_25 n m r read large = (
  unread n m (λ x y. m (n - 1 - x) (n - 1 - y)) r read large (λ n. (5, 6)) (λ v l h. at 1 (corner_roles v l h))
      (omega (arith, large)) (omega (arith, large)) (same (omega (arith, large)) (omega (arith, large))),
  unread n m (λ x y. m y (n - 1 - x)) r read large (λ n. (6, n - 6)) (λ v l h. at 2 (corner_roles v l h))
      (omega (arith, large)) (omega (arith, large)) (same refl (omega (arith, large))),
  unread n m (λ x y. m (n - 1 - y) x) r read large (λ n. (n - 7, 5)) (λ v l h. at 3 (corner_roles v l h))
      (omega (arith, large)) (omega (arith, large)) (same (omega (arith, large)) refl),
  unread n m (λ x y. m (n - 1 - y) (n - 1 - x)) r read large (λ n. (6, 5)) (λ v l h. at 4 (corner_roles v l h))
      (omega (arith, large)) (omega (arith, large)) (same (omega (arith, large)) (omega (arith, large))),
)
  where
    same : {a b c d : ℕ} → a ≡ c → b ≡ d → m a b ≡ m c d
    same e f i = m (e i) (f i)

-- ---- version 1

-- the places of the first thirteen bits of the codewords, and those of the next three
abbrev corner : List (ℕ × ℕ)
corner =
    (20, 20) ∷ (19, 20) ∷ (20, 19) ∷ (19, 19) ∷ (20, 18) ∷ (19, 18) ∷ (20, 17) ∷ (19, 17) ∷ (20, 16) ∷ (19, 16)
    ∷ (20, 15) ∷ (19, 15) ∷ (20, 14) ∷ []

abbrev next_places : List (ℕ × ℕ)
next_places = (19, 14) ∷ (20, 13) ∷ (19, 13) ∷ []

abbrev free_places : List (ℕ × ℕ)
free_places = filter (λ (p : ℕ × ℕ). is_free 1 p.0 p.1) (walk 21)

first_places : free_places ≡ corner ++ (next_places ++ drop 16 free_places)
unfolding walk is_free role
first_places = refl

-- what a finder pattern has there
abbrev finder_modules : List Bool
finder_modules =
    true ∷ true ∷ true ∷ false ∷ true ∷ false ∷ true ∷ false ∷ true ∷ false ∷ true ∷ false ∷ true ∷ []

-- modules with a mask taken off
abbrev unmasked : ℕ → List (ℕ × ℕ) → List Bool → List Bool
unmasked mask [] modules = []
unmasked mask (p ∷ places) [] = []
unmasked mask (p ∷ places) (dark ∷ modules) = xor (is_flipped mask p.0 p.1) dark ∷ unmasked mask places modules

-- Under six masks the first four bits are no mode, and under the others they are that of more characters than a symbol
-- of version 1 has room for.
no_data : (mask : ℕ) → mask < 8 → (a b c : Bool) (n : ℕ) (rest : List Bool) → length rest ≤ 136
    → segments_at 1 n (unmasked mask corner finder_modules ++ (a ∷ b ∷ c ∷ rest)) ≡ None
unfolding is_flipped xor bits_of
no_data zero below a b c n rest few =
    no_mode 1 n 7 (drop 4 (unmasked 0 corner finder_modules) ++ (a ∷ b ∷ c ∷ rest)) (omega arith) (omega arith) refl
no_data (suc zero) below a b c n rest few = too_many 1 n 204 (a ∷ b ∷ c ∷ rest) (omega arith) (omega arith)
no_data (suc (suc zero)) below a b c n rest few =
    no_mode 1 n 14 (drop 4 (unmasked 2 corner finder_modules) ++ (a ∷ b ∷ c ∷ rest)) (omega arith) (omega arith) refl
no_data (suc (suc (suc zero))) below a b c n rest few =
    no_mode 1 n 8 (drop 4 (unmasked 3 corner finder_modules) ++ (a ∷ b ∷ c ∷ rest)) (omega arith) (omega arith) refl
no_data (suc (suc (suc (suc zero)))) below a b c n rest few =
    too_many 1 n 301 (a ∷ b ∷ c ∷ rest) (omega arith) (omega arith)
no_data (suc (suc (suc (suc (suc zero))))) below a b c n rest few =
    no_mode 1 n 14 (drop 4 (unmasked 5 corner finder_modules) ++ (a ∷ b ∷ c ∷ rest)) (omega arith) (omega arith) refl
no_data (suc (suc (suc (suc (suc (suc zero)))))) below a b c n rest few =
    no_mode 1 n 9 (drop 4 (unmasked 6 corner finder_modules) ++ (a ∷ b ∷ c ∷ rest)) (omega arith) (omega arith) refl
no_data (suc (suc (suc (suc (suc (suc (suc zero))))))) below a b c n rest few =
    no_mode 1 n 14 (drop 4 (unmasked 7 corner finder_modules) ++ (a ∷ b ∷ c ∷ rest)) (omega arith) (omega arith) refl
no_data (suc (suc (suc (suc (suc (suc (suc (suc mask)))))))) below a b c n rest few = absurd (omega arith)

-- a symbol in a position in which a finder pattern of it lies on the corner
module _ (m : ℕ → ℕ → Bool) (r : Reading) (one : IsReading 21 m r) (position : ℕ × ℕ → ℕ × ℕ) where
  abbrev placed : ℕ → ℕ → Bool
  placed x y = let p = position (x, y) in m p.0 p.1

  -- the bits at some places
  abbrev bits_at : ℕ → List (ℕ × ℕ) → List Bool
  bits_at mask places = map (λ (p : ℕ × ℕ). xor (is_flipped mask p.0 p.1) (placed p.0 p.1)) places

  -- places at which function patterns are known
  abbrev AreShown : List (ℕ × ℕ) → List Bool → Type 0
  AreShown [] modules = Unit
  AreShown (p ∷ places) [] = ⊥
  AreShown (p ∷ places) (dark ∷ modules) = (placed p.0 p.1 ≡ dark) × AreShown places modules

  bits_shown : (mask : ℕ) (places : List (ℕ × ℕ)) (modules : List Bool) → AreShown places modules
      → bits_at mask places ≡ unmasked mask places modules
  bits_shown mask [] modules are = refl
  bits_shown mask (p ∷ places) [] are = absurd are
  bits_shown mask (p ∷ places) (dark ∷ modules) are = rw (are.0, bits_shown mask places modules are.1) refl

  are_shown : (places : List (ℕ × ℕ)) (modules : List Bool) → roles 1 (map position places) ≡ roles_of modules
      → list_all (λ p. nat_lt (position p).0 21 && nat_lt (position p).1 21) places ≡ true → AreShown places modules
  are_shown [] modules e inside = tt
  are_shown (p ∷ places) [] e inside = absurd (omega (arith, ap length e))
  are_shown (p ∷ places) (dark ∷ modules) e inside =
      let parts = and_parts _ _ inside in
      let here = and_parts _ _ parts.0 in (
        shown 21 m r one (position p).0 (position p).1 dark (ltb-true _ _ here.0) (ltb-true _ _ here.1)
            (ap (λ v. role v (position p).0 (position p).1) version ∙ at 0 e),
        are_shown places modules (ap (drop 1) e) parts.1,
      )
    where
      version : one.version ≡ 1
      version = omega (arith, one.side)

  begins : (mask : ℕ) → read_bits 1 mask placed
      ≡ bits_at mask corner ++ (bits_at mask next_places ++ bits_at mask (drop 16 free_places))
  unfolding read_bits
  begins mask = ap (bits_at mask) first_places

  unread_so : AreShown corner finder_modules → read_square 21 placed ≡ None
  unfolding total_codewords
  unread_so are = found (read_matrix 21 placed) refl
    where
      found : (o : Option Reading) → read_matrix 21 placed ≡ o → read_square 21 placed ≡ None
      found None is = rw is refl
      found (Some s) is = rw is (subst (λ (s : Reading). data_in s.version s.level s.codewords ≡ None) other.value
          (subst (λ v. data_in v other.format.0 (codewords_of (total_codewords v) (read_bits v other.format.1 placed))
          ≡ None) (sym version) no_data_of_it))
        where
          other : IsReading 21 placed s
          other = IsReading-of 21 placed s is

          version : other.version ≡ 1
          version = omega (arith, other.side)

          no_data_of_it : data_in 1 other.format.0 (codewords_of (total_codewords 1)
              (read_bits 1 other.format.1 placed)) ≡ None
          no_data_of_it =
              let mask = other.format.1 in
              let below : mask < 8 = omega (arith, ap (λ (f : Level × ℕ). f.1) other.information.value) in
              let bits = unmasked mask corner finder_modules in
              let three = bits_at mask next_places in
              let after = bits_at mask (drop 16 free_places) in
              let all : read_bits 1 mask placed ≡ bits ++ (three ++ after) =
              begins mask ∙ ap (λ bits. bits ++ (three ++ after)) (bits_shown mask corner finder_modules are) in
              rw all (unread_beginning other.format.0 (take 8 bits) (drop 8 bits ++ three) after refl refl
              (no_data mask below (get_or three 0 false) (get_or three 1 false) (get_or three 2 false)))

-- the first two rows of a symbol that is read differ
pub first_rows_differ : (n : ℕ) (m : ℕ → ℕ → Bool) (r : Reading) → read_matrix n m ≡ Some r
    → (2 ≤ n) × (m 1 0 ≡ true) × (m 1 1 ≡ false)
first_rows_differ n m r read =
    let one = IsReading-of n m r read in
    let some : 2 ≤ n = omega (arith, one.side, one.least) in
    let edge = edge_roles one.version one.least one.most in (
      some,
      shown n m r one 1 0 true (omega (arith, some)) (omega (arith, some)) (at 0 edge),
      shown n m r one 1 1 false (omega (arith, some)) (omega (arith, some)) (at 1 edge),
    )

-- what lies on the corner in each of the four positions
corner_shown : (m : ℕ → ℕ → Bool) (r : Reading) (one : IsReading 21 m r) (position : ℕ × ℕ → ℕ × ℕ)
    → roles 1 (map position corner) ≡ roles_of finder_modules
    → list_all (λ p. nat_lt (position p).0 21 && nat_lt (position p).1 21) corner ≡ true
    → read_square 21 (placed m r one position) ≡ None
corner_shown m r one position e inside =
    unread_so m r one position (are_shown m r one position corner finder_modules e inside)

-- a symbol of version 1 that is turned, or in a mirror along its other diagonal
unread_small : (m : ℕ → ℕ → Bool) (r : Reading) → read_matrix 21 m ≡ Some r
    → (read_square 21 (λ x y. m (20 - x) (20 - y)) ≡ None) × (read_square 21 (λ x y. m y (20 - x)) ≡ None)
    × (read_square 21 (λ x y. m (20 - y) x) ≡ None) × (read_square 21 (λ x y. m (20 - y) (20 - x)) ≡ None)
unfolding role
unread_small m r read =
    let one = IsReading-of 21 m r read in (
      corner_shown m r one (λ p. (20 - p.0, 20 - p.1)) refl refl,
      corner_shown m r one (λ p. (p.1, 20 - p.0)) refl refl,
      corner_shown m r one (λ p. (20 - p.1, p.0)) refl refl,
      corner_shown m r one (λ p. (20 - p.1, 20 - p.0)) refl refl,
    )

-- a symbol whose modules are not read has no data
no_square : (n : ℕ) (m : ℕ → ℕ → Bool) → read_matrix n m ≡ None → read_square n m ≡ None
no_square n m e = rw e refl

unread_turned : (n : ℕ) (m : ℕ → ℕ → Bool) (r : Reading) → read_matrix n m ≡ Some r
    → (read_square n (λ x y. m (n - 1 - x) (n - 1 - y)) ≡ None) × (read_square n (λ x y. m y (n - 1 - x)) ≡ None)
    × (read_square n (λ x y. m (n - 1 - y) x) ≡ None) × (read_square n (λ x y. m (n - 1 - y) (n - 1 - x)) ≡ None)
unread_turned n m r read =
    let one = IsReading-of n m r read in
    elim (cases_lt n 25) [
      | inl small ↦
          let side : n ≡ 21 = omega (arith, small, one.side, one.least) in
          subst (λ n. (read_square n (λ x y. m (n - 1 - x) (n - 1 - y)) ≡ None)
          × (read_square n (λ x y. m y (n - 1 - x)) ≡ None) × (read_square n (λ x y. m (n - 1 - y) x) ≡ None)
          × (read_square n (λ x y. m (n - 1 - y) (n - 1 - x)) ≡ None)) (sym side)
          (unread_small m r (subst (λ n. read_matrix n m ≡ Some r) side read))
      | inr large ↦
          let turned = unread_from_25 n m r read large in (
            no_square n (λ x y. m (n - 1 - x) (n - 1 - y)) turned.0,
            no_square n (λ x y. m y (n - 1 - x)) turned.1,
            no_square n (λ x y. m (n - 1 - y) x) turned.2,
            no_square n (λ x y. m (n - 1 - y) (n - 1 - x)) turned.3,
          )
    ]

pub IsUpright-read : (n : ℕ) (m : ℕ → ℕ → Bool) (r : Reading) → read_matrix n m ≡ Some r → IsUpright n m
IsUpright-read n m r read =
    let mirrors = unread_in_mirrors n m r read in
    let turned = unread_turned n m r read in
    All-from_recursion (λ other. read_square n other ≡ None) (other_positions n m) (
      no_square n (λ x y. m y x) mirrors.0,
      (
        no_square n (λ x y. m (n - 1 - x) y) mirrors.1,
        (no_square n (λ x y. m x (n - 1 - y)) mirrors.2, (turned.0, (turned.1, (turned.2, (turned.3, tt))))),
      ),
    )
