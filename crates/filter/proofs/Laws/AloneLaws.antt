-- What an image shows is read in no other way, whoever computes it.
use Rattle.filter.proofs.Laws.Words.{◌≡◌, ◌∙◌, ℕ, Bool, true, false, List, Option, Some, None, refl, sym, ap, length}
use Rattle.filter.proofs.Laws.Words.{arith, false≢true, get_or, option_and_then, Symbol, Ean13, Ean8, UpcA, Code128, Qr}
use Rattle.filter.proofs.Laws.Words.{IfSome, [], ◌∷◌, ◌++◌, ◌+◌, ◌<◌, ◌≤◌, length-append}
use Rattle.std.proofs.lemmas.Option.{option_and_then_some}
use Rattle.labelcore.specs.declared.options.Format.{Format}
use Rattle.labelcore.specs.declared.symbology.Symbology.{Symbology}
use Rattle.linear.specs.Code128Reading.{read_code128}
use Rattle.linear.specs.EanReading.{read_ean13, read_ean8, read_upca}
use Rattle.linear.specs.Scanning.{HasNoGap, HasNoPart, HasOneReading}
use Rattle.linear.proofs.Laws.GapLaws.{code128_gap, ean13_gap, ean8_gap, upca_gap}
use Rattle.linear.proofs.Laws.OneReadingLaws.{IsBounded, code128_bounded, ean13_bounded, ean8_bounded, has_one_reading}
use Rattle.linear.proofs.Laws.OneReadingLaws.{upca_bounded}
use Rattle.linear.proofs.Laws.PartLaws.{HasNoPart-of}
use Rattle.linear.proofs.Laws.ReadLengthLaws.{code128_long, ean13_long, ean8_long, upca_long}
use Rattle.qrmatrix.proofs.Laws.FoundLaws.{IsReading-of}
use Rattle.std.specs.Prelude.{replicate}
use Rattle.std.proofs.lemmas.List.{length-replicate}
use Rattle.picture.specs.Reading.{common_row}
use Rattle.qrmatrix.specs.Reading.{IsUpright, Reading, read_matrix}
use Rattle.qrmatrix.specs.Square.{value_at}
use Rattle.qrmatrix.proofs.Laws.TurnLaws.{IsUpright-read, first_rows_differ}
use Rattle.filter.specs.OneReading.{HoldsNoBars, IsAlone}
use Rattle.filter.specs.Reading.{modules_in, read_image, read_modules}
use Rattle.filter.proofs.Laws.FoundLaws.{common_rows, square_read}

-- rows that are all one are no QR symbol
one_row : (rows : List (List Bool)) (row : List Bool) (r : Reading) → common_row rows ≡ Some row
    → read_matrix (length rows) (value_at rows) ≡ Some r → false ≡ true
one_row rows row r e is =
    let differ = first_rows_differ (length rows) (value_at rows) r is in
    let same = (common_rows rows row e).1 in
    sym differ.2 ∙ ap (λ (l : List Bool). get_or l 1 false) (same 1 (omega (arith, differ.0))
    ∙ sym (same 0 (omega (arith, differ.0)))) ∙ differ.1

row_alone : (reading : List Bool → Option (List ℕ))
    → ((row : List Bool) (full : List ℕ) → reading row ≡ Some full → HasNoGap row)
    → ((row : List Bool) (full : List ℕ) → reading row ≡ Some full → IsBounded row) → (rows : List (List Bool))
    (full : List ℕ) → option_and_then reading (common_row rows) ≡ Some full → (read_modules Qr rows ≡ None)
    × ((row : List Bool) → common_row rows ≡ Some row → HasOneReading row × HasNoGap row × HasNoPart row)
row_alone reading gap bounded rows full read = (
  at (read_modules Qr rows) refl,
  λ row e.
      let is : reading row ≡ Some full = sym (ap (option_and_then reading) e) ∙ read in
      let no_gap = gap row full is in
      (has_one_reading row, no_gap, HasNoPart-of row no_gap (bounded row full is)),
)
  where
    at : (o : Option (List ℕ)) → read_modules Qr rows ≡ o → read_modules Qr rows ≡ None
    at None e = e
    at (Some found) e =
        let square = square_read rows found e in
        option_and_then_some reading (common_row rows) full read (λ row is rest.
        absurd (false≢true (one_row rows row square.0 is square.1)))

-- ---- no bars within a line of a square

-- what is beside a part fits the line
fits : (line before part after : List Bool) (left right : ℕ)
    → line ≡ before ++ (replicate left false ++ (part ++ (replicate right false ++ after)))
    → left + length part + right ≤ length line
fits line before part after left right e =
    let last = replicate right false ++ after in
    omega (
      arith,
      ap length e,
      length-append before (replicate left false ++ (part ++ last)),
      length-append (replicate left false) (part ++ last),
      length-append part last,
      length-append (replicate right false) after,
      length-replicate left false,
      length-replicate right false,
    )

-- a square has 57 modules a side at most, and none has one
side_range : (n : ℕ) (m : ℕ → ℕ → Bool) (r : Reading) → read_matrix n m ≡ Some r → (21 ≤ n) × (n ≤ 57)
side_range n m r read =
    let is = IsReading-of n m r read in
    (omega (arith, is.side, is.least), omega (arith, is.side, is.most))

-- what holds of whatever is read
of_read : {P : List ℕ → Type 0} (o : Option (List ℕ)) → ((full : List ℕ) → o ≡ Some full → P full) → IfSome o P
of_read None each = tt
of_read (Some full) each = each full refl

-- a row that is too short for a character of data is read as none
no_data_in : (part : List Bool) → length part < 46 → (full : List ℕ) → read_code128 part ≡ Some full
    → (full ≡ []) × (length part < 46)
no_data_in part short [] read = (refl, short)
no_data_in part short (byte ∷ bytes) read =
    absurd (omega (arith, short, code128_long part (byte ∷ bytes) read (λ none. omega (arith, ap length none))))

holds_no_bars : (line : List Bool) → length line ≤ 65 → HoldsNoBars line
holds_no_bars line short Ean13 before part after e = of_read _ (λ full read. absurd
    (omega (arith, short, fits line before part after 11 7 e, ean13_long part full read)))
holds_no_bars line short Ean8 before part after e = of_read _ (λ full read. absurd
    (omega (arith, short, fits line before part after 7 7 e, ean8_long part full read)))
holds_no_bars line short UpcA before part after e = of_read _ (λ full read. absurd
    (omega (arith, short, fits line before part after 9 9 e, upca_long part full read)))
holds_no_bars line short Code128 before part after e =
    of_read _ (no_data_in part (omega (arith, short, fits line before part after 10 10 e)))
holds_no_bars line short Qr before part after e = of_read _ (λ full read.
    let square = square_read (part ∷ []) full read in
    absurd (omega (arith, (side_range 1 (value_at (part ∷ [])) square.0 square.1).0)))

square_alone : (rows : List (List Bool)) (full : List ℕ) → read_modules Qr rows ≡ Some full
    → (common_row rows ≡ None) × IsUpright (length rows) (value_at rows)
    × ((line : List Bool) → length line ≡ 4 + length rows + 4 → HoldsNoBars line)
square_alone rows full read =
    let square = square_read rows full read in (
      at square.0 square.1 (common_row rows) refl,
      IsUpright-read (length rows) (value_at rows) square.0 square.1,
      λ line wide. holds_no_bars line
          (omega (arith, wide, (side_range (length rows) (value_at rows) square.0 square.1).1)),
    )
  where
    at : (r : Reading) → read_matrix (length rows) (value_at rows) ≡ Some r → (o : Option (List Bool))
        → common_row rows ≡ o → common_row rows ≡ None
    at r is None e = e
    at r is (Some row) e = absurd (false≢true (one_row rows row r e is))

pub rows_alone : (symbology : Symbology) (rows : List (List Bool)) (full : List ℕ)
    → read_modules symbology rows ≡ Some full → IsAlone symbology rows
rows_alone Ean13 rows full read = row_alone read_ean13 ean13_gap ean13_bounded rows full read
rows_alone Ean8 rows full read = row_alone read_ean8 ean8_gap ean8_bounded rows full read
rows_alone UpcA rows full read = row_alone read_upca upca_gap upca_bounded rows full read
rows_alone Code128 rows full read = row_alone read_code128 code128_gap code128_bounded rows full read
rows_alone Qr rows full read = square_alone rows full read

pub IsAlone-read : (format : Format) (scale : ℕ) (image : List ℕ) (symbol : Symbol)
    → read_image format scale symbol.symbology image ≡ Some symbol.full
    → IfSome (modules_in format scale symbol.symbology image) (IsAlone symbol.symbology)
unfolding read_image
IsAlone-read format scale image symbol read = at (modules_in format scale symbol.symbology image) read
  where
    at : (o : Option (List (List Bool))) → option_and_then (read_modules symbol.symbology) o ≡ Some symbol.full
        → IfSome o (IsAlone symbol.symbology)
    at None e = tt
    at (Some rows) e = rows_alone symbol.symbology rows symbol.full e
