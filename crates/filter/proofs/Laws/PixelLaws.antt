-- An image with a few wrong pixels is read as the full data or as nothing, whoever computes it: at one offset of its
-- modules few pixels are wrong, and those at that offset are the modules.
use Rattle.filter.proofs.Laws.Words.{◌≡◌, ◌+◌, ◌*◌, ◌<◌, ◌≤◌, ◌∙◌, ℕ, Bool, true, false, List, [], ◌∷◌, Option}
use Rattle.filter.proofs.Laws.Words.{Some, None, refl, sym, ap, subst, arith, inl, inr, length, cases_lt, option_and_then}
use Rattle.filter.proofs.Laws.Words.{Symbol, Ean13, Ean8, UpcA, Code128, Qr, IfSome, quiet_zone, false≢true, get_or}
use Rattle.filter.proofs.Laws.Words.{get_or_past}
use Rattle.std.proofs.Common.{suc, not, ◌-◌, ◌/◌, filter}
use Rattle.std.specs.Bool.{beq}
use Rattle.std.specs.Cmp.{booleans_Decides}
use Rattle.std.specs.List.{list_any}
use Rattle.std.proofs.lemmas.Bool.Decides.{nat_tests}
use Rattle.std.proofs.lemmas.List.Filters.{length-filter_both}
use Rattle.std.proofs.lemmas.Map.Views.{any-filter_same}
use Rattle.std.proofs.lemmas.Nat.{div-mul-add}
use Rattle.std.proofs.Math.Nat.{div-lt_iff_lt-mul, mul-pos}
use Rattle.labelcore.specs.declared.options.Format.{Format}
use Rattle.labelcore.specs.declared.symbology.Symbology.{Symbology}
use Rattle.linear.specs.Modules.{turned_modules}
use Rattle.linear.proofs.Laws.DamageLaws.{AreFarApart, code128_rows_far_apart, ean13_rows_far_apart, ean8_rows_far_apart}
use Rattle.linear.proofs.Laws.DamageLaws.{upca_rows_far_apart}
use Rattle.linear.specs.Code128Reading.{read_code128}
use Rattle.linear.specs.EanReading.{read_ean13, read_ean8, read_upca}
use Rattle.picture.specs.declared.quiet_zone.QuietZone.{QuietZone}
use Rattle.picture.specs.Reading.{Raster, common_row, sample}
use Rattle.picture.proofs.Laws.OffsetLaws.{AgreeAtOffset, agree_at_offset}
use Rattle.picture.proofs.Laws.PixelLaws.{IsSampled, IsSampled-of, columns_of, outside, rows_of}
use Rattle.qrmatrix.specs.Reading.{AgreeBut, is_among}
use Rattle.qrmatrix.specs.Square.{value_at}
use Rattle.qrmatrix.proofs.Laws.PlaceLaws.{same_place}
use Rattle.filter.specs.Damage.{AreClose, AreNear, IsGuardedInPixels, turned_limit}
use Rattle.filter.specs.Reading.{modules_in, pixels, read_image, read_modules}
use Rattle.filter.proofs.Laws.DamageLaws.{NothingOr, linear_read, rows_read}
use Rattle.filter.proofs.Laws.FoundLaws.{common_rows}

-- ---- rows

some_listed : (p : ℕ × ℕ → Bool) (xs : List (ℕ × ℕ)) → list_any p xs ≡ true → 0 < length xs
some_listed p [] e = absurd (false≢true e)
some_listed p (x ∷ xs) e = omega arith

other_place : (from x : ℕ) (p : ℕ × ℕ) → same_place (from + 1 + x, 0) p ≡ true → not (same_place (from, 0) p) ≡ true
other_place from x p same = grind (arith, nat_tests)

-- two rows have the same modules but for those in some columns, the first of the row being in column `from`
abbrev AgreeFrom : (row other : List Bool) → ℕ → List (ℕ × ℕ) → Type 0
AgreeFrom row other from turned =
    (x : ℕ) → x < length row → is_among turned (from + x) 0 ≡ false → get_or other x false ≡ get_or row x false

-- no more modules are turned than are listed
turned_few : (row other : List Bool) (from : ℕ) (turned : List (ℕ × ℕ)) → length other ≡ length row
    → AgreeFrom row other from turned → turned_modules row other ≤ length turned
unfolding turned_modules
turned_few [] other from turned long agree = omega arith
turned_few (a ∷ row) [] from turned long agree = absurd (omega (arith, long))
turned_few (a ∷ row) (b ∷ other) from turned long agree =
    at (beq a b) refl (λ listed kept. turned_few row other (from + 1) listed (omega (arith, long)) kept)
  where
    later : AgreeFrom row other (from + 1) turned
    later x inside none =
        let next : from + suc x ≡ from + 1 + x = omega arith in
        agree (suc x) (omega (arith, inside)) (ap (λ k. is_among turned k 0) next ∙ none)

    is_listed : (b' : Bool) → is_among turned from 0 ≡ b' → beq a b ≡ false → is_among turned from 0 ≡ true
    is_listed true is differ = is
    is_listed false is differ =
        let here : from + 0 ≡ from = omega arith in
        let same : b ≡ a = agree 0 (omega arith) (ap (λ k. is_among turned k 0) here ∙ is) in
        absurd (false≢true (sym differ ∙ (booleans_Decides a b).1 (sym same)))

    at : (same : Bool) → beq a b ≡ same
        → ((listed : List (ℕ × ℕ)) → AgreeFrom row other (from + 1) listed → turned_modules row other ≤ length listed)
        → turned_modules (a ∷ row) (b ∷ other) ≤ length turned
    at true is rest = rw is (omega (arith, rest turned later))
    at false is rest =
        let here = same_place (from, 0) in
        let others = filter (λ p. not (here p)) turned in
        let found = any-filter_same here here true (λ p same. same) turned
        ∙ is_listed (is_among turned from 0) refl is in
        let fewer = rest others (λ x inside none. later x inside (sym (any-filter_same (same_place (from + 1 + x, 0))
        (λ p. not (here p)) true (λ p same. other_place from x p same) turned) ∙ none)) in
        rw is (omega (
          arith,
          fewer,
          some_listed here (filter here turned) found,
          length-filter_both here (λ p. not (here p)) (λ p. refl) turned,
        ))

-- ---- linear symbols

module _ (scale left right : ℕ) (some : 0 < scale) where
  abbrev zone : QuietZone
  zone = record { left = left; right = right; top = 0; bottom = 0 }

  -- a module of a row is any pixel of its bar
  bar_pixel : (r : Raster) (rows : List (List Bool)) (row : List Bool) → IsSampled r scale zone rows
      → common_row rows ≡ Some row → (x across y : ℕ) → x < columns_of r scale zone → across < scale → y < r.height
      → get_or row x false ≡ value_at r.rows ((left + x) * scale + across) y
  bar_pixel r rows row is one x across y wide inside high =
      let height = rows_of r scale zone in
      let plain : 0 + height + 0 ≡ height = omega arith in
      let all : height * scale ≡ r.height = ap (λ k. k * scale) (sym plain) ∙ is.high in
      let below : y / scale < height = (div-lt_iff_lt-mul some).1 (omega (arith, high, all)) in
      sym (ap (λ (l : List Bool). get_or l x false)
      ((common_rows rows row one).1 (y / scale) (omega (arith, below, is.long))))
      ∙ is.shows x (y / scale) ((left + x) * scale + across) y wide below (div-mul-add (left + x) scale across inside)
      (omega arith)

  row_long : (r : Raster) (rows : List (List Bool)) (row : List Bool) → IsSampled r scale zone rows
      → common_row rows ≡ Some row → (0 < r.height) × (length row ≡ columns_of r scale zone)
  row_long r rows row is one =
      let lines = common_rows rows row one in
      let height : 0 < 0 + rows_of r scale zone + 0 = omega (arith, lines.0, is.long) in (
        subst (λ n. 0 < n) is.high (mul-pos height some),
        ap length (sym (lines.1 0 lines.0)) ∙ is.wide 0 (omega (arith, lines.0, is.long)),
      )

  linear_near : (limit : ℕ) (reading : List Bool → Option (List ℕ)) → AreFarApart limit reading
      → (shown seen : Raster) (rows other : List (List Bool)) (full : List ℕ) → seen.width ≡ shown.width
      → seen.height ≡ shown.height → IsSampled shown scale zone rows → IsSampled seen scale zone other
      → (wrong : List (ℕ × ℕ)) → AgreeBut wrong (value_at shown.rows) (value_at seen.rows)
      → length wrong < (limit + 1) * (scale * shown.height) → option_and_then reading (common_row rows) ≡ Some full
      → NothingOr (option_and_then reading (common_row other)) full
  linear_near limit reading apart shown seen rows other full wide high is also wrong agree near read =
      linear_read limit reading apart rows other full read (λ row other_row one two.
      let long = row_long shown rows row is one in
      let other_long = row_long seen other other_row also two in
      let columns : columns_of seen scale zone ≡ columns_of shown scale zone =
      ap (λ n. n / scale - zone.left - zone.right) wide in
      let same_length = other_long.1 ∙ columns ∙ sym long.1 in
      let found = agree_at_offset scale shown.height left 0 limit long.0 (value_at shown.rows) (value_at seen.rows)
      wrong agree near in
      let y = (0 + 0) * shown.height + found.down in
      let down : y < shown.height = omega (arith, found.down_below) in
      let few = turned_few row other_row 0 found.turned same_length (λ x inside none.
      let first : 0 + x ≡ x = omega arith in
      bar_pixel seen other other_row also two x found.across y (omega (arith, inside, long.1, columns))
      found.across_below (omega (arith, down, high))
      ∙ found.agree x 0 (ap (λ k. is_among found.turned k 0) (sym first) ∙ none)
      ∙ sym (bar_pixel shown rows row is one x found.across y (omega (arith, inside, long.1)) found.across_below
      down)) in
      (same_length, omega (arith, few, found.few)))

-- ---- QR symbols

qr_near : (scale : ℕ) (zone : QuietZone) (shown seen : Raster) (rows other : List (List Bool)) → 0 < scale
    → seen.width ≡ shown.width → seen.height ≡ shown.height → IsSampled shown scale zone rows
    → IsSampled seen scale zone other → (wrong : List (ℕ × ℕ))
    → AgreeBut wrong (value_at shown.rows) (value_at seen.rows)
    → length wrong < (turned_limit Qr rows + 1) * (scale * scale) → AreClose Qr rows other
qr_near scale zone shown seen rows other some wide high is also wrong agree near =
    (also.long ∙ same_height ∙ sym is.long, (found.turned, found.few, agree_in))
  where
    found : AgreeAtOffset scale scale zone.left zone.top (turned_limit Qr rows) (value_at shown.rows)
        (value_at seen.rows)
    found = agree_at_offset scale scale zone.left zone.top (turned_limit Qr rows) some (value_at shown.rows)
        (value_at seen.rows) wrong agree near

    same_width : columns_of seen scale zone ≡ columns_of shown scale zone
    same_width = ap (λ n. n / scale - zone.left - zone.right) wide

    same_height : rows_of seen scale zone ≡ rows_of shown scale zone
    same_height = ap (λ n. n / scale - zone.top - zone.bottom) high

    module_pixel : (r : Raster) (l : List (List Bool)) → IsSampled r scale zone l → (x y : ℕ)
        → x < columns_of r scale zone → y < rows_of r scale zone → value_at l x y
        ≡ value_at r.rows ((zone.left + x) * scale + found.across) ((zone.top + y) * scale + found.down)
    module_pixel r l sampled x y in_width in_height = sampled.shows x y _ _ in_width in_height
        (div-mul-add (zone.left + x) scale found.across found.across_below)
        (div-mul-add (zone.top + y) scale found.down found.down_below)

    agree_in : AgreeBut found.turned (value_at rows) (value_at other)
    agree_in x y none = elim (cases_lt x (columns_of shown scale zone)) [
      | inl in_width ↦ elim (cases_lt y (rows_of shown scale zone)) [
        | inl in_height ↦
            module_pixel seen other also x y (omega (arith, in_width, same_width))
            (omega (arith, in_height, same_height))
            ∙ found.agree x y none ∙ sym (module_pixel shown rows is x y in_width in_height)
        | inr past ↦
            ap (λ (l : List Bool). get_or l x false)
            (get_or_past other y [] (omega (arith, past, also.long, same_height))
            ∙ sym (get_or_past rows y [] (omega (arith, past, is.long))))
      ]
      | inr past ↦
          outside other (columns_of seen scale zone) (rows_of seen scale zone) x y also.long also.wide
          (omega (arith, past, same_width))
          ∙ sym (outside rows (columns_of shown scale zone) (rows_of shown scale zone) x y is.long is.wide
          (omega (arith, past)))
    ]

-- ---- images

near_read : (symbology : Symbology) (scale : ℕ) (shown seen : Raster) (rows other : List (List Bool)) (full : List ℕ)
    → 0 < scale → IsSampled shown scale (quiet_zone symbology) rows → IsSampled seen scale (quiet_zone symbology) other
    → read_modules symbology rows ≡ Some full → AreNear symbology scale shown rows seen
    → NothingOr (read_modules symbology other) full
near_read Ean13 scale shown seen rows other full some is also read near =
    linear_near scale 11 7 some 1 read_ean13 ean13_rows_far_apart shown seen rows other full near.0 near.1 is also
    near.2.0 near.2.2 near.2.1 read
near_read Ean8 scale shown seen rows other full some is also read near =
    linear_near scale 7 7 some 3 read_ean8 ean8_rows_far_apart shown seen rows other full near.0 near.1 is also near.2.0
    near.2.2 near.2.1 read
near_read UpcA scale shown seen rows other full some is also read near =
    linear_near scale 9 9 some 3 read_upca upca_rows_far_apart shown seen rows other full near.0 near.1 is also near.2.0
    near.2.2 near.2.1 read
near_read Code128 scale shown seen rows other full some is also read near =
    linear_near scale 10 10 some 1 read_code128 code128_rows_far_apart shown seen rows other full near.0 near.1 is also
    near.2.0 near.2.2 near.2.1 read
near_read Qr scale shown seen rows other full some is also read near =
    rows_read Qr rows other full read (qr_near scale (quiet_zone Qr) shown seen rows other some near.0 near.1 is also
    near.2.0 near.2.2 near.2.1)

pub IsGuardedInPixels-read : (format : Format) (scale : ℕ) (image : List ℕ) (symbol : Symbol) → 0 < scale
    → read_image format scale symbol.symbology image ≡ Some symbol.full → IsGuardedInPixels format scale image symbol
unfolding read_image modules_in
IsGuardedInPixels-read format scale image symbol some read damaged shown rows is modules close =
    at (pixels format damaged) close
  where
    sampled : sample shown scale (quiet_zone symbol.symbology) ≡ Some rows
    sampled = sym (ap (option_and_then (λ image. sample image scale (quiet_zone symbol.symbology))) is) ∙ modules

    in_rows : (seen : Raster) → AreNear symbol.symbology scale shown rows seen → (o : Option (List (List Bool)))
        → sample seen scale (quiet_zone symbol.symbology) ≡ o
        → NothingOr (option_and_then (read_modules symbol.symbology) o) symbol.full
    in_rows seen near None e = inl refl
    in_rows seen near (Some other) e = near_read symbol.symbology scale shown seen rows other symbol.full some
        (IsSampled-of shown scale (quiet_zone symbol.symbology) some rows sampled)
        (IsSampled-of seen scale (quiet_zone symbol.symbology) some other e)
        (sym (ap (option_and_then (read_modules symbol.symbology)) modules) ∙ read) near

    at : (o : Option Raster) → IfSome o (AreNear symbol.symbology scale shown rows)
        → NothingOr (option_and_then (read_modules symbol.symbology)
        (option_and_then (λ image. sample image scale (quiet_zone symbol.symbology)) o)) symbol.full
    at None near = inl refl
    at (Some seen) near = in_rows seen near (sample seen scale (quiet_zone symbol.symbology)) refl
