-- An image that is damaged in a few modules is read as the full data or as nothing, whoever computes it.
use Rattle.filter.proofs.Laws.Words.{◌≡◌, ◌⊎◌, ◌≤◌, ◌==◌, ◌∙◌, ℕ, Bool, true, false, List, [], ◌∷◌, Option, Some, None}
use Rattle.filter.proofs.Laws.Words.{refl, sym, ap, subst, arith, inl, inr, length, option_and_then, Symbol, Ean13}
use Rattle.filter.proofs.Laws.Words.{Ean8, UpcA, Code128, Qr, IfSome, min}
use Rattle.std.specs.Bool.{then_some}
use Rattle.std.specs.List.{AllZip, list_all}
use Rattle.std.specs.Option.{option_map_or}
use Rattle.std.proofs.Math.Nat.{min-le_left, min-le_right}
use Rattle.std.proofs.lemmas.Option.{none-some, option_and_then_some}
use Rattle.labelcore.specs.declared.options.Format.{Format}
use Rattle.labelcore.specs.declared.symbology.Symbology.{Symbology}
use Rattle.linear.specs.Modules.{turned_modules}
use Rattle.linear.specs.Code128Reading.{read_code128}
use Rattle.linear.specs.EanReading.{read_ean13, read_ean8, read_upca}
use Rattle.linear.proofs.Laws.DamageLaws.{AreFarApart, code128_rows_far_apart, ean13_rows_far_apart, ean8_rows_far_apart}
use Rattle.linear.proofs.Laws.DamageLaws.{upca_rows_far_apart}
use Rattle.picture.specs.Reading.{common_row}
use Rattle.qrdata.specs.Versions.{ec_codewords_per_block}
use Rattle.qrdata.proofs.Laws.DamageLaws.{AreNear-few, IsGuarded-of}
use Rattle.qrmatrix.specs.Reading.{IsLike, Reading, read_matrix}
use Rattle.qrmatrix.specs.Square.{value_at}
use Rattle.qrmatrix.proofs.Laws.DamageLaws.{IsGuarded-read as IsGuarded-read_matrix, read_version}
use Rattle.filter.specs.Damage.{AreClose, IsGuarded}
use Rattle.filter.specs.Reading.{modules_in, read_image, read_modules}
use Rattle.filter.proofs.Laws.FoundLaws.{common_rows, data_of, square_read}

-- what is read is nothing or this
abbrev pub NothingOr : Option (List ℕ) → List ℕ → Type 0
NothingOr o full = (o ≡ None) ⊎ (o ≡ Some full)

-- ---- linear symbols

-- rows that are all one row, of which few modules are turned
pub linear_read : (limit : ℕ) (reading : List Bool → Option (List ℕ)) → AreFarApart limit reading
    → (rows other : List (List Bool)) (full : List ℕ) → option_and_then reading (common_row rows) ≡ Some full
    → ((row other_row : List Bool) → common_row rows ≡ Some row → common_row other ≡ Some other_row
    → (length other_row ≡ length row) × (turned_modules row other_row ≤ limit))
    → NothingOr (option_and_then reading (common_row other)) full
linear_read limit reading apart rows other full read close =
    option_and_then_some reading (common_row rows) full read (λ row is found. at row is found (common_row other) refl)
  where
    row_read : (row other_row : List Bool) → reading row ≡ Some full
        → (length other_row ≡ length row) × (turned_modules row other_row ≤ limit) → (o : Option (List ℕ))
        → reading other_row ≡ o → NothingOr (reading other_row) full
    row_read row other_row found near None is = inl is
    row_read row other_row found near (Some other_full) is =
        inr (ap reading (sym (apart row other_row full other_full near.0 found is near.1)) ∙ found)

    at : (row : List Bool) → common_row rows ≡ Some row → reading row ≡ Some full → (o : Option (List Bool))
        → common_row other ≡ o → NothingOr (option_and_then reading o) full
    at row is found None also = inl refl
    at row is found (Some other_row) also =
        row_read row other_row found (close row other_row is also) (reading other_row) refl

close_rows : (limit : ℕ) (rows other : List (List Bool))
    → AllZip (λ row other_row. (length other_row ≡ length row) × (turned_modules row other_row ≤ limit)) rows other
    → (row other_row : List Bool) → common_row rows ≡ Some row → common_row other ≡ Some other_row
    → (length other_row ≡ length row) × (turned_modules row other_row ≤ limit)
close_rows limit [] other close row other_row is also = absurd (none-some row is)
close_rows limit (first ∷ rows) [] close row other_row is also = absurd (none-some other_row also)
close_rows limit (first ∷ rows) (second ∷ other) close row other_row is also =
    let one = (common_rows (first ∷ rows) row is).1 0 (omega arith) in
    let two = (common_rows (second ∷ other) other_row also).1 0 (omega arith) in
    subst (λ (p : List Bool × List Bool). (length p.1 ≡ length p.0) × (turned_modules p.0 p.1 ≤ limit))
    (λ i. (one i, two i)) close.0

-- ---- QR symbols

-- the limit of a reading
abbrev limit_of : Reading → ℕ
limit_of r = min 13 (ec_codewords_per_block r.version r.level)

qr_rows : (rows other : List (List Bool)) (full : List ℕ) → read_modules Qr rows ≡ Some full → AreClose Qr rows other
    → NothingOr (read_modules Qr other) full
qr_rows rows other full read close = square (list_all (λ row. length row == length other) other)
  where
    like_data : (r s : Reading) (count : ℕ) → read_matrix (length rows) (value_at rows) ≡ Some r
        → data_of r ≡ Some full → count ≤ limit_of r → IsLike count r s → NothingOr (data_of s) full
    like_data r s count is found few h =
        let near = AreNear-few r.version r.level r.codewords s.codewords h.codewords
        (omega (arith, few, h.few, min-le_right 13 (ec_codewords_per_block r.version r.level))) in
        let itself : IfSome (read_matrix (length rows) (value_at rows)) (IsLike 0 r) =
        IsGuarded-read_matrix (length rows) (value_at rows) r is [] (value_at rows) (omega arith) (λ x y e. refl) in
        let own : IsLike 0 r r = subst (λ o. IfSome o (IsLike 0 r)) is itself in
        subst (λ (s : Reading). NothingOr (data_of s) full)
        (λ i. record { version = sym h.version i; level = sym h.level i; codewords = s.codewords })
        (IsGuarded-of r.version r.level r.codewords full (read_version (length rows) (value_at rows) r is) own.bytes
        found s.codewords h.bytes near)

    reading : (o : Option Reading) (r : Reading) → read_matrix (length rows) (value_at rows) ≡ Some r
        → data_of r ≡ Some full → length close.1.0 ≤ limit_of r → IfSome o (IsLike (length close.1.0) r)
        → NothingOr (option_and_then data_of o) full
    reading None r is found few h = inl refl
    reading (Some s) r is found few h = like_data r s (length close.1.0) is found few h

    square : (b : Bool)
        → NothingOr (option_and_then (λ n. option_and_then data_of (read_matrix n (value_at other)))
        (then_some b (length other))) full
    square false = inl refl
    square true =
        let read = square_read rows full read in
        let few : length close.1.0 ≤ limit_of read.0 =
        subst (λ o. length close.1.0 ≤ option_map_or limit_of o 0) read.1 close.1.1 in
        subst (λ n. NothingOr (option_and_then data_of (read_matrix n (value_at other))) full) (sym close.0)
        (reading (read_matrix (length rows) (value_at other)) read.0 read.1 read.2 few
        (IsGuarded-read_matrix (length rows) (value_at rows) read.0 read.1 close.1.0 (value_at other)
        (omega (arith, few, min-le_left 13 (ec_codewords_per_block read.0.version read.0.level))) close.1.2))

-- ---- images

pub rows_read : (symbology : Symbology) (rows other : List (List Bool)) (full : List ℕ)
    → read_modules symbology rows ≡ Some full → AreClose symbology rows other
    → NothingOr (read_modules symbology other) full
rows_read Ean13 rows other full read close =
    linear_read 1 read_ean13 ean13_rows_far_apart rows other full read (close_rows 1 rows other close)
rows_read Ean8 rows other full read close =
    linear_read 3 read_ean8 ean8_rows_far_apart rows other full read (close_rows 3 rows other close)
rows_read UpcA rows other full read close =
    linear_read 3 read_upca upca_rows_far_apart rows other full read (close_rows 3 rows other close)
rows_read Code128 rows other full read close =
    linear_read 1 read_code128 code128_rows_far_apart rows other full read (close_rows 1 rows other close)
rows_read Qr rows other full read close = qr_rows rows other full read close

pub IsGuarded-read : (format : Format) (scale : ℕ) (image : List ℕ) (symbol : Symbol)
    → read_image format scale symbol.symbology image ≡ Some symbol.full → IsGuarded format scale image symbol
unfolding read_image
IsGuarded-read format scale image symbol read damaged rows shown close =
    at (modules_in format scale symbol.symbology damaged) close
  where
    at : (o : Option (List (List Bool))) → IfSome o (AreClose symbol.symbology rows)
        → NothingOr (option_and_then (read_modules symbol.symbology) o) symbol.full
    at None near = inl refl
    at (Some other) near = rows_read symbol.symbology rows other symbol.full
        (sym (ap (option_and_then (read_modules symbol.symbology)) shown) ∙ read) near
