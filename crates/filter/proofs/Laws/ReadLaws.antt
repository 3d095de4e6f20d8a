-- What the definitions draw reads back as the full data of its line, whoever computes it.
use Rattle.filter.proofs.Laws.FilterLaws.{are_bytes, enlarged}
use Rattle.filter.proofs.Laws.Words.{All, ⊤, ◌≡◌, ◌≢◌, ◌+◌, ◌*◌, ◌++◌, Some, refl, Bool, true, ◌==◌, None, item, Ean8, UpcA, sent}
use Rattle.filter.proofs.Laws.Words.{Fits, IfOk, ok_or, List, arith, subst, false, lines, drawn, Fault, Ean13, Event, le-ltb}
use Rattle.filter.proofs.Laws.Words.{w8, ℕ, ◌⊎◌, ◌^◌, ◌<◌, ◌≤◌, [], ◌∷◌, map, ap, Ok, Err, sym, ◌∙◌, inl, inr, Qr}
use Rattle.filter.proofs.Laws.Words.{nat_lt, skipped, refused, Outcome, Request, Options, Code128, of_line, flushes, text_of}
use Rattle.filter.proofs.Laws.Words.{Result, length, get_or, eq-eqb, Option, Images, script, outcome, Symbol}
use Rattle.filter.proofs.Laws.Words.{option_and_then, All-from_recursion, recursion_from_All, drawn_symbols, outcome_of_item}
use Rattle.filter.proofs.Laws.Words.{and-false, All-map, RunValues, picture_of, quiet_zone, symbol_of, qr_modules, cases_lt}
use Rattle.filter.proofs.Laws.Words.{All-weaker, outcome_of, LabelValues, events_after, image_of, linear_symbol, get_or_past}
use Rattle.std.specs.List.{AllByRecursion, flat_map, list_all}
use Rattle.std.proofs.Math.Nat.{mul-pos}
use Rattle.labelcore.proofs.Laws.LinesLaws.{AllOf-lines}
use Rattle.labelcore.specs.Lines.{ended_text}
use Rattle.labelcore.specs.declared.options.Format.{Format}
use Rattle.labelcore.specs.declared.options.Format.TheVariants.{Pbm, Ascii}
use Rattle.labelcore.specs.LineItem.{HasData}
use Rattle.labelcore.specs.declared.symbology.Symbology.{Symbology}
use Rattle.labelcore.proofs.Laws.KeptLaws.{AreBytes, AreInRange, HasRanges, item-has_data, item-ranges}
use Rattle.picture.specs.Picture.{Picture, bars}
use Rattle.picture.specs.Reading.{raster, common_row}
use Rattle.picture.specs.ReadingLaws.{IsDrawable}
use Rattle.picture.proofs.Laws.AsciiLaws.{ascii_files-flat_map, ascii_pixels-ascii_text}
use Rattle.picture.proofs.Laws.CutLaws.{pbm_files-flat_map}
use Rattle.picture.proofs.Laws.PbmLaws.{pbm_pixels-pbm_text}
use Rattle.std.proofs.lemmas.List.{append-nil}
use Rattle.picture.proofs.Laws.SampleLaws.{sample-raster, value_at-raster, common_row-bars}
use Rattle.filter.proofs.Laws.DamageLaws.{IsGuarded-read, rows_read}
use Rattle.filter.proofs.Laws.AloneLaws.{IsAlone-read, rows_alone}
use Rattle.filter.proofs.Laws.PixelLaws.{IsGuardedInPixels-read}
use Rattle.filter.specs.ModuleReading.{IsReadInModules}
use Rattle.filter.specs.Readback.{AreRead, HoldsImages, IsRead, ReadsBack}
use Rattle.filter.specs.Reading.{cut, modules_in, pixels, read_image, read_modules}
use Rattle.std.proofs.lemmas.List.FromFn.{get_or-map-range_with_len, length-map-range_with_len}
use mathlib.Core.Path.{fun_ext}
use Rattle.labelcore.specs.Settings.{◌>>=◌}
use Rattle.labelcore.specs.declared.fault.Fault.TheVariants.{DoesNotFit}
use Rattle.linear.specs.Code128.{full_code128, code128_row}
use Rattle.linear.specs.Code128Reading.{read_code128}
use Rattle.linear.specs.Digits.{full_digits}
use Rattle.linear.specs.Ean.{ean13_row, ean8_row, upca_row}
use Rattle.linear.specs.EanReading.{read_ean13, read_ean8, read_upca}
use Rattle.linear.proofs.Laws.Code128Laws.{code128_read_back}
use Rattle.linear.proofs.Laws.EanLaws.{ean13_read_back, ean8_read_back, upca_read_back}
use Rattle.linear.proofs.Laws.RowLengthLaws.{HasLength, code128_length, ean13_length, ean8_length, upca_length}
use Rattle.qrdata.specs.Codewords.{symbol_codewords}
use Rattle.qrdata.specs.Fewest.{chosen_segments, chosen_version}
use Rattle.qrdata.specs.Reading.{data_in}
use Rattle.qrdata.specs.Versions.{side_of}
use Rattle.labelcore.specs.declared.level.Level.{Level}
use Rattle.qrdata.proofs.Laws.CodewordByteLaws.{AreBytes-symbol_codewords}
use Rattle.qrdata.proofs.Laws.DataReadingLaws.{data_in-symbol_codewords, length-read}
use Rattle.qrdata.proofs.Laws.FewestBitsLaws.{chosen_segments-is}
use Rattle.qrdata.proofs.Laws.VersionSearchLaws.{chosen_version-found}
use Rattle.qrmatrix.specs.MaskChoice.{chosen_mask}
use Rattle.qrmatrix.specs.Modules.{is_inside, module_at}
use Rattle.qrmatrix.specs.Reading.{read_matrix}
use Rattle.qrmatrix.specs.Square.{value_at}
use Rattle.qrmatrix.proofs.Laws.MaskChoiceLaws.{chosen_mask-lt, mask_below}
use Rattle.qrmatrix.proofs.Laws.ReadingLaws.{module_outside, reads_back}
use Rattle.picture.specs.Text.{below, pixel_row}

-- modules of some size that are read as the full data
pub record IsReadable (symbol : Symbol) : Type 0 where
  pub some_columns : 0 < symbol.modules.width
  pub columns : symbol.modules.width ≤ 1795
  pub some_rows : 0 < symbol.modules.height
  pub rows : symbol.modules.height ≤ 500
  pub wide : (symbol.symbology ≡ Qr) ⊎ (46 ≤ symbol.modules.width)
  pub read : read_modules symbol.symbology (raster symbol.modules).rows ≡ Some symbol.full

-- the modules of what is drawn are read; of other lines nothing is said
abbrev HasReadable : Outcome Symbol → Type 0
HasReadable (drawn symbol) = IsReadable symbol
HasReadable other = ⊤

module _ (n : ℕ) (dark : ℕ → ℕ → Bool)
    (outside : (x y : ℕ) → is_inside n x y ≡ false → dark x y ≡ false) where
  abbrev square : Picture
  square = record { width = n; height = n; dark = dark }

  square_value : (x y : ℕ) → value_at (raster square).rows x y ≡ dark x y
  square_value x y = elim (cases_lt y n) [
    | inl high ↦ elim (cases_lt x n) [
      | inl wide ↦ value_at-raster square x y wide high
      | inr past ↦
          ap (λ (row : List Bool). get_or row x false)
          (get_or-map-range_with_len (pixel_row square) 0 n y y [] high (omega arith))
          ∙ (get_or_past (pixel_row square y) x false
          (let size = length-map-range_with_len (λ x. dark x y) 0 n in omega arith)
          ∙ sym (outside x y (rw (le-ltb x n past) refl)))
    ]
    | inr past ↦
        ap (λ (row : List Bool). get_or row x false)
        (get_or_past (raster square).rows y [] (let size = length-map-range_with_len (pixel_row square) 0 n in
        omega arith))
        ∙ sym (outside x y (rw (le-ltb y n past) (and-false (nat_lt x n))))
  ]

  equal_lengths : (ys : List ℕ) → list_all (λ row. length row == n) (map (pixel_row square) ys) ≡ true
  equal_lengths [] = refl
  equal_lengths (y ∷ ys) =
      rw (eq-eqb (length (pixel_row square y)) n (length-map-range_with_len (λ x. dark x y) 0 n), equal_lengths ys) refl

  -- a QR symbol whose modules are read
  qr_readable : (version : ℕ) (level : Level) (codewords bytes : List ℕ) → 0 < n → n ≤ 57
      → read_matrix n dark ≡ Some (record { version = version; level = level; codewords = codewords })
      → data_in version level codewords ≡ Some bytes →
      IsReadable (record { symbology = Qr; full = bytes; modules = record { width = n; height = n; dark = dark } })
  qr_readable version level codewords bytes some most symbol data_read =
      let rows = (raster square).rows in
      let count : length rows ≡ n = length-map-range_with_len (pixel_row square) 0 n in
      let values : value_at rows ≡ dark = fun_ext (λ x. fun_ext (λ y. square_value x y)) in
      let equal : list_all (λ row. length row == n) rows ≡ true = equal_lengths (below n) in
      record {
        some_columns = some;
        columns = omega arith;
        some_rows = some;
        rows = omega arith;
        wide = inl refl;
        read = rw (count, equal, values, symbol) data_read;
      }

module _ (run : RunValues) (label : LabelValues) (range : AreInRange run label) where
  -- bars of a row that is read
  linear_readable : (symbology : Symbology) (row : List ℕ → List Bool) (reading : List Bool → Option (List ℕ))
      → ((rows : List (List Bool)) → read_modules symbology rows ≡ option_and_then reading (common_row rows))
      → (found : Result (List ℕ) Fault) → IfOk found (λ full. reading (row full) ≡ Some full)
      → IfOk found (λ full. HasLength (row full)) → HasReadable (outcome_of (linear_symbol symbology row label found))
  linear_readable symbology row reading rule (Err refusal) read has = tt
  linear_readable symbology row reading rule (Ok full) read has = record {
    some_columns = omega (arith, has.long);
    columns = has.short;
    some_rows = range.height_low;
    rows = range.height_high;
    wide = inr has.long;
    read = rule (raster (bars (row full) label.height)).rows
        ∙ (ap (option_and_then reading) (common_row-bars (row full) label.height range.height_low) ∙ read);
  }

  -- the modules of the version that is chosen
  modules_readable : (bytes : List ℕ) (version : ℕ) → AreBytes bytes
      → chosen_version label.min_version label.level bytes ≡ Some version
      → IsReadable (record { symbology = Qr; full = bytes; modules = qr_modules label bytes version })
  unfolding qr_modules
  modules_readable bytes version w chosen =
      let level = label.level in
      let found = chosen_version-found label.min_version level bytes version chosen in
      let low : 1 ≤ version = omega (arith, range.version_low, found.0) in
      let segments = chosen_segments version bytes in
      let codewords = symbol_codewords version level segments bytes in
      let read = data_in-symbol_codewords version level segments bytes low found.1 w
      (chosen_segments-is version bytes) found.2 in
      let are_bytes = All-from_recursion (λ b. b < 256) codewords
      (AreBytes-symbol_codewords version level segments bytes low found.1) in
      let mask = chosen_mask version level label.mask codewords in
      let below = chosen_mask-lt version level label.mask codewords (mask_below label.mask range.mask_fits) in
      qr_readable (side_of version) (module_at version level mask codewords)
      (module_outside version level mask codewords) version level codewords bytes (omega arith)
      (omega (arith, found.1)) (reads_back version level mask codewords low found.1 below
      (length-read version level codewords bytes read) are_bytes) read

  qr_is_readable : (bytes : List ℕ) → AreBytes bytes → (found : Option ℕ)
      → chosen_version label.min_version label.level bytes ≡ found
      → HasReadable (outcome_of (ok_or found (DoesNotFit label.level) >>= (λ version. Ok (record {
        symbology = Qr;
        full = bytes;
        modules = qr_modules label bytes version;
      }))))
  qr_is_readable bytes w None e = tt
  qr_is_readable bytes w (Some version) e = modules_readable bytes version w e

  -- what is drawn of data is read as its full data
  symbol_readable : (symbology : Symbology) (bytes : List ℕ) → bytes ≢ [] → AreBytes bytes
      → HasReadable (outcome_of (symbol_of label symbology bytes))
  unfolding symbol_of
  symbol_readable Ean13 bytes some w = linear_readable Ean13 ean13_row read_ean13 (λ rows. refl) (full_digits 12 bytes)
      (ean13_read_back bytes) (ean13_length bytes)
  symbol_readable Ean8 bytes some w = linear_readable Ean8 ean8_row read_ean8 (λ rows. refl) (full_digits 7 bytes)
      (ean8_read_back bytes) (ean8_length bytes)
  symbol_readable UpcA bytes some w = linear_readable UpcA upca_row read_upca (λ rows. refl) (full_digits 11 bytes)
      (upca_read_back bytes) (upca_length bytes)
  symbol_readable Code128 bytes some w = linear_readable Code128 code128_row read_code128 (λ rows. refl)
      (full_code128 bytes) (code128_read_back bytes) (code128_length bytes some)
  symbol_readable Qr bytes some w =
      qr_is_readable bytes w (chosen_version label.min_version label.level bytes) refl

item_readable : (run : RunValues) (asked : Outcome Request) → HasRanges run asked → HasData asked
    → HasReadable (outcome_of_item asked)
item_readable run skipped h has = tt
item_readable run (refused fault) h has = tt
item_readable run (drawn asked) h has =
    let some : asked.bytes ≢ [] = λ none. omega (arith, ap length none, has.0) in
    symbol_readable run asked.options.label h.0 asked.symbology asked.bytes some h.1

-- the modules of what is drawn of a line of bytes are read
outcome_readable : (options : Options) → AreInRange options.run options.label → (line : List ℕ) → AreBytes line
    → HasReadable (outcome options line)
unfolding outcome
outcome_readable options range line w = item_readable options.run (item options line)
    (item-ranges options line range w) (item-has_data options line)

-- the quiet zones are narrow
zone_small : (symbology : Symbology) → ((quiet_zone symbology).left + (quiet_zone symbology).right ≤ 20)
    × ((quiet_zone symbology).top + (quiet_zone symbology).bottom ≤ 20)
zone_small symbology = grind arith

-- a side of a picture: modules and their quiet zone, enlarged
side_some : (before inner after scale : ℕ) → 0 < inner → 1 ≤ scale → 0 < (before + inner + after) * scale
side_some before inner after scale some low = mul-pos (let sum : 0 < before + inner + after = omega arith in sum) low

side_small : (before inner after scale : ℕ) → before + after ≤ 20 → inner ≤ 1795 → scale ≤ 8
    → (before + inner + after) * scale < 2 ^ 64
side_small before inner after scale narrow inside high =
    let most = enlarged (before + inner + after) scale (omega arith) high in omega arith

-- the modules of an event's symbol are read; of other events nothing is said
abbrev EventIsReadable : Event → Type 0
EventIsReadable (of_line number outcome) = HasReadable outcome
EventIsReadable flushes = Unit {0}

both_parts : (xs ys : List Event) → AllByRecursion EventIsReadable (xs ++ ys)
    → AllByRecursion EventIsReadable xs × AllByRecursion EventIsReadable ys
both_parts [] ys h = (tt, h)
both_parts (x ∷ xs) ys h = let parts = both_parts xs ys h.1 in ((h.0, parts.0), parts.1)

module _ (run : RunValues) (label : LabelValues) (range : AreInRange run label) where
  drawable : (symbol : Symbol) → IsReadable symbol → IsDrawable (picture_of run symbol)
  drawable symbol h =
      let zone = quiet_zone symbol.symbology in
      record {
        some = side_some zone.left symbol.modules.width zone.right run.scale h.some_columns range.scale_low;
        wide = side_small zone.left symbol.modules.width zone.right run.scale (zone_small symbol.symbology).0
            h.columns range.scale_high;
        high = side_small zone.top symbol.modules.height zone.bottom run.scale (zone_small symbol.symbology).1
            (omega (arith, h.rows)) range.scale_high;
      }

  text_read : (format : Format) (symbol : Symbol) → IsReadable symbol
      → pixels format (text_of format (picture_of run symbol)) ≡ Some (raster (picture_of run symbol))
  text_read Pbm symbol h = pbm_pixels-pbm_text (picture_of run symbol) (drawable symbol h)
  text_read Ascii symbol h = ascii_pixels-ascii_text (picture_of run symbol)
      (side_some _ symbol.modules.height _ run.scale h.some_rows range.scale_low)

  -- the image of modules that are read
  full_read : (format : Format) (symbol : Symbol) → IsReadable symbol
      → read_image format run.scale symbol.symbology (text_of format (picture_of run symbol)) ≡ Some symbol.full
  unfolding modules_in read_image
  full_read format symbol h = rw (
    text_read format symbol h,
    sample-raster symbol.modules (quiet_zone symbol.symbology) run.scale range.scale_low,
  ) h.read

  image_read : (format : Format) (symbol : Symbol) → IsReadable symbol
      → IsRead format run.scale (text_of format (picture_of run symbol)) symbol
  image_read format symbol h =
      let full = full_read format symbol h in
      record {
        full = full;
        guarded = IsGuarded-read format run.scale (text_of format (picture_of run symbol)) symbol full;
        guarded_in_pixels = IsGuardedInPixels-read format run.scale (text_of format (picture_of run symbol)) symbol
            range.scale_low full;
        alone = IsAlone-read format run.scale (text_of format (picture_of run symbol)) symbol full;
      }

  outcome_read : (found : Result Symbol Fault) → HasReadable (outcome_of found)
      → IfOk found (λ symbol. IsRead run.format run.scale (image_of run (drawn symbol)) symbol)
  outcome_read (Ok symbol) h = image_read run.format symbol h
  outcome_read (Err fault) h = tt

  -- a stream of images, and a beginning of more
  stream_cut : (format : Format) (pictures more : List Picture) (begun rest : List ℕ) → All IsDrawable pictures
      → flat_map (text_of format) more ≡ begun ++ rest
      → cut format (ended_text (flat_map (text_of format) pictures ++ begun))
      ≡ map (text_of format) pictures ++ cut format (ended_text begun)
  stream_cut Pbm pictures more begun rest all e = pbm_files-flat_map.begins pictures more begun rest all e
  stream_cut Ascii pictures more begun rest all e = ascii_files-flat_map.begins pictures more begun rest
      (All-weaker IsDrawable (λ p. 0 < p.width) (λ p h. h.some) pictures all) e

  -- a stream of images, and no more
  whole_cut : (format : Format) (pictures : List Picture) → All IsDrawable pictures
      → cut format (flat_map (text_of format) pictures) ≡ map (text_of format) pictures
  whole_cut Pbm pictures all = pbm_files-flat_map.whole pictures all
  whole_cut Ascii pictures all = ascii_files-flat_map.whole pictures
      (All-weaker IsDrawable (λ p. 0 < p.width) (λ p h. h.some) pictures all)

  all_read : (symbols : List Symbol) → AllByRecursion IsReadable symbols
      → AreRead run.format run.scale (map (text_of run.format) (map (picture_of run) symbols)) symbols
  unfolding AreRead
  all_read [] all = tt
  all_read (symbol ∷ symbols) all = (image_read run.format symbol all.0, all_read symbols all.1)

  -- the symbols of a script, and their images
  symbols_readable : (events : List Event) → AllByRecursion EventIsReadable events
      → AllByRecursion IsReadable (drawn_symbols events) × (sent run Images events
      ≡ flat_map (text_of run.format) (map (picture_of run) (drawn_symbols events)))
  unfolding drawn_symbols
  symbols_readable [] w = (tt, refl)
  symbols_readable (of_line number skipped ∷ events) w = symbols_readable events w.1
  symbols_readable (of_line number (refused fault) ∷ events) w = symbols_readable events w.1
  symbols_readable (of_line number (drawn symbol) ∷ events) w = let later = symbols_readable events w.1 in
      ((w.0, later.0), ap (λ (bytes : List ℕ). text_of run.format (picture_of run symbol) ++ bytes) later.1)
  symbols_readable (flushes ∷ events) w = symbols_readable events w.1

  -- the images of a script, cut, are read as the full data of its symbols, whatever is begun after them
  images_of_events_read : (events later : List Event) (begun rest : List ℕ) → AllByRecursion EventIsReadable events
      → AllByRecursion EventIsReadable later → sent run Images later ≡ begun ++ rest
      → HoldsImages run.format run.scale (drawn_symbols events) (sent run Images events ++ begun) begun
  images_of_events_read events later begun rest w w' e =
      let symbols = drawn_symbols events in
      let found = symbols_readable events w in
      let more = symbols_readable later w' in
      let drawables = All-map IsDrawable (picture_of run) symbols
      (All-weaker IsReadable (λ symbol. IsDrawable (picture_of run symbol)) drawable symbols
      (All-from_recursion IsReadable symbols found.0)) in
      record {
        images = map (text_of run.format) (map (picture_of run) symbols);
        parts = rw found.1 (stream_cut run.format (map (picture_of run) symbols)
            (map (picture_of run) (drawn_symbols later)) begun rest drawables (sym more.1 ∙ e));
        whole = λ none.
            ap (cut run.format) (ap (λ (bytes : List ℕ). sent run Images events ++ bytes) none
            ∙ append-nil (sent run Images events) ∙ found.1)
            ∙ whole_cut run.format (map (picture_of run) symbols) drawables;
        read = all_read symbols found.0;
      }

module _ (options : Options) (range : AreInRange options.run options.label) where
  -- the image of data is read as its full data
  pub image_of_data_read : (symbology : Symbology) (bytes : List ℕ) → bytes ≢ [] → ((i : ℕ) → Fits w8 (get_or bytes i 0))
      → IfOk (symbol_of options.label symbology bytes)
      (λ symbol. IsRead options.run.format options.run.scale (image_of options.run (drawn symbol)) symbol)
  image_of_data_read symbology bytes some fits = outcome_read options.run options.label range _
      (symbol_readable options.run options.label range symbology bytes some (recursion_from_All (λ b. b < 256) bytes
      (are_bytes bytes fits)))

  outcome_is_readable : (found : Result Symbol Fault) → HasReadable (outcome_of found) → IfOk found IsReadable
  outcome_is_readable (Ok symbol) h = h
  outcome_is_readable (Err fault) h = tt

  -- the modules of data are of some size, and are read as its full data
  pub data_is_readable : (symbology : Symbology) (bytes : List ℕ) → bytes ≢ [] → ((i : ℕ) → Fits w8 (get_or bytes i 0))
      → IfOk (symbol_of options.label symbology bytes) IsReadable
  data_is_readable symbology bytes some fits = outcome_is_readable _
      (symbol_readable options.run options.label range symbology bytes some (recursion_from_All (λ b. b < 256) bytes
      (are_bytes bytes fits)))

  modules_of_outcome_read : (found : Result Symbol Fault) → HasReadable (outcome_of found) → IfOk found IsReadInModules
  modules_of_outcome_read (Ok symbol) h = record {
    full = h.read;
    guarded = λ damaged close. rows_read symbol.symbology (raster symbol.modules).rows damaged symbol.full h.read close;
    alone = rows_alone symbol.symbology (raster symbol.modules).rows symbol.full h.read;
  }
  modules_of_outcome_read (Err fault) h = tt

  -- the modules of data are read as its full data
  pub modules_of_data_read : (symbology : Symbology) (bytes : List ℕ) → bytes ≢ []
      → ((i : ℕ) → Fits w8 (get_or bytes i 0))
      → IfOk (symbol_of options.label symbology bytes) IsReadInModules
  modules_of_data_read symbology bytes some fits = modules_of_outcome_read _
      (symbol_readable options.run options.label range symbology bytes some (recursion_from_All (λ b. b < 256) bytes
      (are_bytes bytes fits)))

  script_readable : (before : ℕ) (lines : List (List ℕ)) → AllByRecursion AreBytes lines
      → AllByRecursion EventIsReadable (events_after options before lines ++ flushes ∷ [])
  unfolding events_after
  script_readable before [] w = (tt, tt)
  script_readable before (line ∷ lines) w =
      (outcome_readable options range line w.0, script_readable (before + 1) lines w.1)

  -- what the script of a text sends reads back
  pub script_of_text_read : (text : List ℕ) → All (λ b. b < 256) text → ReadsBack options.run (script options text)
  script_of_text_read text w front later begun rest cut held =
      let parts = both_parts front later (subst (AllByRecursion EventIsReadable) cut (script_readable 0 (lines text)
      (AllOf-lines (λ b. b < 256) text (recursion_from_All (λ b. b < 256) text w)))) in
      images_of_events_read options.run options.label range front later begun rest parts.0 parts.1 held
