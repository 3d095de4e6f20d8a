-- The patterns that rows of modules show.
use Rattle.std.proofs.Common.{◌≡◌, ◌⊎◌, ℕ, ◌-◌, ◌^◌, ◌<◌, ◌≤◌, refl, sym, ap, ◌∙◌, arith, inl, inr}
use Rattle.std.proofs.Common.{Bool, true, false, not, ◌&&◌, ◌||◌, ◌==◌, List, Option, Some, None}
use Rattle.std.specs.Prelude.{bit_and, bit_xor, is_none, nat_lt, unwrap_or}
use Rattle.std.specs.Int.{bit_not, w64}
use Rattle.std.proofs.lemmas.Bool.{cases_eq, cases_lt, eq-eqb, le-ltb, lt-ltb, ne_eqb}
use Rattle.std.proofs.lemmas.Bool.Decides.{nat_tests}
use Rattle.std.proofs.lemmas.Nat.{and_le_r}
use Rattle.std.proofs.lemmas.Nat.Bits.{bit_at-lt, bit_at-zero, same_from_bits_below}
use Rattle.std.proofs.Math.Bool.{and-false}
use Rattle.std.specs.Bool.{beq}
use Rattle.std.specs.List.{list_all, range_with_len}
use Rattle.std.specs.Option.{option_map}
use Rattle.labelcore.specs.declared.level.Level.{Level}
use Rattle.qrdata.specs.Versions.{side_of}
use Rattle.qrmatrix.specs.Bits.{bit}
use Rattle.qrmatrix.specs.Functions.{Role, Format, Function, Version, fixed_module, is_free, module_of_role, role}
use Rattle.qrmatrix.specs.Information.{format_information}
use Rattle.qrmatrix.specs.Reading.{shows_functions}
use Rattle.qrmatrix.specs.Square.{value_at}
use Rattle.qrmatrix.specs.Private.Drawing.{format_module, unmasked_module}
use Rattle.qrmatrix.specs.Private.Squares.{flip_if}
use Rattle.qr_reading.specs.Private.Walking.{DrawsPatterns, shows_row}
use Rattle.labelcore.proofs.Laws.ComputedLaws.{always, passes, same_tests}
use Rattle.qrmatrix.proofs.Laws.RowBitsLaws.{above_bit, and_bit, low_bit, not_bit, ones_narrow, xor_bit}

-- the module of a role that is drawn
pub role_drawn : (v : ℕ) (level : Level) (mask : ℕ) (r : Option Role) (old : Bool) → is_none r ≡ false
    → old ≡ unmasked_module v r
    → option_map (module_of_role v level mask) r ≡ Some (flip_if (format_module (format_information level mask) r) old)
role_drawn v level mask (Some (Function b)) old some e = rw e refl
role_drawn v level mask (Some (Format i)) old some e = rw e (at (bit (format_information level mask) i))
  where
    at : (b : Bool) → Some b ≡ Some (flip_if b false)
    at true = refl
    at false = refl
role_drawn v level mask (Some (Version i)) old some e = rw e refl
role_drawn v level mask None old some e = cc

-- rows show the patterns
pub patterns_shown : (n v : ℕ) (level : Level) (mask : ℕ) (free dark : List (List Bool)) (m : ℕ → ℕ → Bool)
    → n ≡ side_of v → DrawsPatterns v level mask free dark
    → list_all (λ y. shows_row n (λ x. m x y) (λ x. value_at free x y) (λ x. value_at dark x y)) (range_with_len 0 n)
    ≡ shows_functions v level mask m
unfolding shows_functions is_free fixed_module
patterns_shown n v level mask free dark m side draws =
    rw side (same_tests _ _ (side_of v) (λ y high. same_tests _ _ (side_of v) (λ x wide.
    place (role v x y) (value_at free x y) (value_at dark x y) (m x y) (draws.marked.inside x y wide high)
    (draws.drawn x y wide high))))
  where
    place : (r : Option Role) (f d b : Bool) → f ≡ is_none r
        → (is_none r ≡ false → option_map (module_of_role v level mask) r ≡ Some d)
        → (f || beq d b) ≡ beq (unwrap_or (option_map (module_of_role v level mask) r) b) b
    place None f d b e drawn = grind arith
    place (Some r) f d b e drawn = let is = drawn refl in grind arith

-- a word is 0 where none of its bits is set
no_bit : (w : ℕ) → w < 2 ^ 64 → ((x : ℕ) → x < 64 → bit w x ≡ false) → w ≡ 0
no_bit w small none =
    same_from_bits_below 64 w 0 small (omega arith)
    (λ i l. grind (arith, nat_tests, none i l, bit_at-lt w i, bit_at-zero i))

-- what a row shows of one module
by_bits : (a b c : Bool) → ((not (beq c b) && not a) && true) ≡ false → (a || beq b c) ≡ true
by_bits a b c h = grind arith

by_test : (a b c : Bool) → (a || beq b c) ≡ true → ((not (beq c b) && not a) && true) ≡ false
by_test a b c h = grind arith

module _ (n row free dark : ℕ) (f d : ℕ → Bool) (few : n ≤ 57) (small_free : free < 2 ^ 64)
    (is_free : (x : ℕ) → bit free x ≡ f x) (is_dark : (x : ℕ) → bit dark x ≡ d x) where
  -- the modules that are not free and differ
  wrong : ℕ
  wrong = bit_and (bit_and (bit_xor row dark) (bit_not w64 free)) (2 ^ n - 1)

  wrong_at : (x : ℕ) → x < 64 → bit wrong x ≡ ((not (beq (bit row x) (d x)) && not (f x)) && nat_lt x n)
  unfolding wrong
  wrong_at x wide = rw (
    and_bit (bit_and (bit_xor row dark) (bit_not w64 free)) (2 ^ n - 1) x,
    and_bit (bit_xor row dark) (bit_not w64 free) x,
    xor_bit row dark x,
    not_bit free x small_free wide,
    is_free x,
    is_dark x,
    low_bit n x,
  ) refl

  small_wrong : wrong < 2 ^ 64
  unfolding wrong
  small_wrong =
      let most = and_le_r (bit_and (bit_xor row dark) (bit_not w64 free)) (2 ^ n - 1) in
      omega (arith, most, ones_narrow n few)

  none_wrong : wrong ≡ 0 → shows_row n (bit row) f d ≡ true
  none_wrong none =
      same_tests (λ x. f x || beq (d x) (bit row x)) (λ x. true) n (λ x wide.
      let zero_bit : bit wrong x ≡ false = ap (λ z. bit z x) none ∙ above_bit 0 0 x (omega arith) (omega arith) in
      let differs = sym (wrong_at x (omega (arith, wide, few))) ∙ zero_bit in
      by_bits (f x) (d x) (bit row x) (rw (lt-ltb x n wide) at differs)) ∙ always 0 n

  some_wrong : shows_row n (bit row) f d ≡ true → wrong ≡ 0
  some_wrong shown = no_bit wrong small_wrong (λ x wide. wrong_at x wide ∙ at x (cases_lt x n))
    where
      at : (x : ℕ) → (x < n) ⊎ (n ≤ x) → ((not (beq (bit row x) (d x)) && not (f x)) && nat_lt x n) ≡ false
      at x (inl inside) =
          rw (lt-ltb x n inside)
          (by_test (f x) (d x) (bit row x) (passes (λ x. f x || beq (d x) (bit row x)) n x shown inside))
      at x (inr past) = rw (le-ltb x n past) (and-false (not (beq (bit row x) (d x)) && not (f x)))

  -- a row shows the patterns where no module that is not free differs from them
  pub row_shown : (bit_and (bit_and (bit_xor row dark) (bit_not w64 free)) (2 ^ n - 1) == 0) ≡ shows_row n (bit row) f d
  unfolding wrong
  row_shown = elim (cases_eq wrong 0) [
    | inl none ↦ eq-eqb wrong 0 none ∙ sym (none_wrong none)
    | inr some ↦ ne_eqb wrong 0 some ∙ sym (at (shows_row n (bit row) f d) refl some)
  ]
    where
      at : (b : Bool) → shows_row n (bit row) f d ≡ b → (wrong ≡ 0 → ⊥) → b ≡ false
      at false e some = refl
      at true e some = absurd (some (some_wrong e))
