-- The clauses of the calls in other words, without an item: of data by its symbol, of a line by its outcome. The clauses of
-- the C library say no less.
use Rattle.std.proofs.Common.{◌≡◌, ℕ, List, [], ◌∷◌}
use Rattle.std.specs.Prelude.{Bool, true, false, Option, Some, None, Result, Ok, Err, IfOk, MatchResult, if◌then◌else◌}
use Rattle.labelcore.specs.LineItem.{Outcome, refused, drawn, item, outcome_of}
use Rattle.labelcore.specs.Message.{fault_text}
use Rattle.labelcore.specs.declared.fault.Fault.{Fault}
use Rattle.labelcore.specs.declared.options.Options.{Options}
use Rattle.labelcore.specs.declared.symbology.Symbology.{Symbology}
use Rattle.filter.specs.ModuleReading.{IsReadInModules}
use Rattle.filter.specs.Output.{image_of, picture_of}
use Rattle.filter.specs.Readback.{IsRead}
use Rattle.filter.specs.Symbol.{Symbol, symbol_of}
use Rattle.capi.specs.Bitmap.{AnswersBitmap, AnswersBitmapOutcome, DeclinesBitmap, IsReadInDots, PutsBitmap, ReadsBitmap}
use Rattle.capi.specs.Bitmap.{ReadsBitmapOutcome}
use Rattle.capi.specs.Calls.{AnswersImage, AnswersImageOutcome, Asked, Declines, PutsWhole, ReadsImage, ReadsImageOutcome, Rooms}
use Rattle.capi.specs.Calls.{asked, asked_of, has_LF, line_asked_of, options_asked}
use Rattle.capi.specs.Full.{IsFullPut, PutsFull, PutsFullOutcome}
use Rattle.capi.specs.Modules.{AnswersModules, AnswersModulesOutcome, DeclinesModules, HasNumbers, IsDrawnAs, IsSizeOf}
use Rattle.capi.specs.Modules.{ModuleRooms, NumbersAsked, PutsModules, ReadsModules, ReadsModulesOutcome, with_rows_put}
use Rattle.capi.specs.Numbers.{code_of, place_of, symbology_numbered}
use Rattle.capi.specs.Private.Asking.{one_row}
use Rattle.capi.specs.declared.asked.Reason.{Reason}
use Rattle.capi.specs.declared.numbers.Answer.{Answer}
use Rattle.capi.specs.declared.numbers.CallOptions.{CallOptions}
use Rattle.capi.specs.declared.numbers.SymbolInfo.{SymbolInfo}
use Rattle.capi.specs.declared.numbers.ToldBitmap.{ToldBitmap}
use Rattle.capi.proofs.ModuleLaws.{IsLowered, lowered}

-- ---- data

-- the options and the symbology of data
record DataAsked : Type 0 where
  pub options : Options
  pub symbology : Symbology

-- what is asked for of data, or why nothing can be drawn
abbrev data_of : Result Options Reason → Option Symbology → List ℕ → Result DataAsked Reason
data_of (Err reason) symbology bytes = Err reason
data_of (Ok options) None bytes = Err (record { code = 3; at = 0 })
data_of (Ok options) (Some symbology) [] = Err (record { code = 4; at = 0 })
data_of (Ok options) (Some symbology) (b ∷ bytes) = Ok (record { options = options; symbology = symbology })

-- a clause says of data what it says of a reason and of a symbol
data_said : (clause : Result Asked Reason → Type 0) {declines : Reason → Type 0} {draws : DataAsked → List ℕ → Type 0}
    → ((reason : Reason) → clause (Err reason) → declines reason)
    → ((a : DataAsked) (bytes : List ℕ) → clause (Ok (record {
      run = a.options.run;
      item = drawn (record { symbology = a.symbology; options = a.options; bytes = bytes });
    })) → draws a bytes)
    → (options : Result Options Reason) (symbology : Option Symbology) (bytes : List ℕ)
    → clause (asked_of options symbology bytes)
    → MatchResult (data_of options symbology bytes) (λ a. draws a bytes) declines
data_said clause reason symbol (Err why) symbology bytes h = reason why h
data_said clause reason symbol (Ok options) None bytes h = reason _ h
data_said clause reason symbol (Ok options) (Some symbology) [] h = reason _ h
data_said clause reason symbol (Ok options) (Some symbology) (b ∷ bytes) h =
    symbol (record { options = options; symbology = symbology }) (b ∷ bytes) h

-- what is said of an outcome is said of the symbol or of the fault
found_said : (clause : Outcome Symbol → Type 0) {draws : Symbol → Type 0} {refuses : Fault → Type 0}
    → ((symbol : Symbol) → clause (drawn symbol) → draws symbol) → ((fault : Fault) → clause (refused fault) → refuses fault)
    → (found : Result Symbol Fault) → clause (outcome_of found) → MatchResult found draws refuses
found_said clause draw refuse (Ok symbol) h = draw symbol h
found_said clause draw refuse (Err fault) h = refuse fault h

-- and of the symbol with one row where it is linear
lowered_said : (clause : Outcome Symbol → Type 0) (draws : Symbol → Type 0) {refuses : Fault → Type 0}
    → ((symbol : Symbol) → clause (drawn symbol) → draws (with_rows_put symbol))
    → ((fault : Fault) → clause (refused fault) → refuses fault)
    → (low found : Result Symbol Fault) → IsLowered low found → clause (outcome_of found) → MatchResult low draws refuses
lowered_said clause draws draw refuse low (Ok symbol) is h = rw is (draw symbol h)
lowered_said clause draws draw refuse low (Err fault) is h = rw is (refuse fault h)

module _ (options : CallOptions) (number : ℕ) (bytes : List ℕ) where
  abbrev found_data : Result DataAsked Reason
  found_data = data_of (options_asked options) (symbology_numbered number) bytes

  abbrev symbol_data : DataAsked → Result Symbol Fault
  symbol_data a = symbol_of a.options.label a.symbology bytes

  abbrev row_data : DataAsked → Result Symbol Fault
  row_data a = symbol_of (one_row a.options.label) a.symbology bytes

  pub image_of_data : (rooms : Rooms) (answer : Answer) → AnswersImage rooms answer (asked options number bytes)
      → MatchResult found_data (λ a. MatchResult (symbol_data a)
      (λ symbol. PutsWhole rooms answer (image_of a.options.run (drawn symbol)))
      (λ fault. Declines rooms answer (code_of fault) (place_of fault) (fault_text fault)))
      (λ reason. Declines rooms answer reason.code reason.at [])
  unfolding asked
  image_of_data rooms answer = data_said (AnswersImage rooms answer) (λ reason h. h)
      (λ a bytes. found_said (AnswersImageOutcome rooms answer a.options.run) (λ symbol h. h) (λ fault h. h) _) _ _ bytes

  pub image_of_data_reads : ReadsImage (asked options number bytes) → IfOk found_data (λ a. IfOk (symbol_data a) (λ symbol.
      IsRead a.options.run.format a.options.run.scale (image_of a.options.run (drawn symbol)) symbol))
  unfolding asked
  image_of_data_reads = data_said ReadsImage (λ reason h. h)
      (λ a bytes. found_said (ReadsImageOutcome a.options.run) (λ symbol h. h) (λ fault h. h) _) _ _ bytes

  pub modules_of_data : (rooms : ModuleRooms) (answer : Answer) (info : SymbolInfo)
      → AnswersModules rooms answer info (asked options number bytes)
      → MatchResult found_data (λ a. MatchResult (row_data a)
      (λ symbol. PutsModules rooms answer symbol.modules × IsSizeOf symbol info)
      (λ fault. DeclinesModules rooms answer info (code_of fault) (place_of fault) (fault_text fault)))
      (λ reason. DeclinesModules rooms answer info reason.code reason.at [])
  unfolding asked
  modules_of_data rooms answer info = data_said (AnswersModules rooms answer info) (λ reason h. h)
      (λ a bytes. lowered_said (AnswersModulesOutcome rooms answer info)
      (λ symbol. PutsModules rooms answer symbol.modules × IsSizeOf symbol info) (λ symbol h. (h.0, h.1.0)) (λ fault h. h) _ _
      (lowered a.options.label a.symbology bytes)) _ _ bytes

  pub modules_of_data_read : ReadsModules (asked options number bytes)
      → IfOk found_data (λ a. IfOk (row_data a) IsReadInModules)
  unfolding asked
  modules_of_data_read = data_said ReadsModules (λ reason h. h)
      (λ a bytes. lowered_said ReadsModulesOutcome IsReadInModules (λ symbol h. h) (λ fault h. h) _ _
      (lowered a.options.label a.symbology bytes)) _ _ bytes

  pub numbers_of_data : (info : SymbolInfo) → NumbersAsked info (asked options number bytes)
      → IfOk found_data (λ a. IfOk (row_data a) (λ symbol. HasNumbers a.options.label a.symbology bytes info))
  unfolding asked
  numbers_of_data info = data_said (NumbersAsked info) (λ reason h. h)
      (λ a bytes h. of_low _ _ _ (lowered a.options.label a.symbology bytes) h) _ _ bytes
    where
      of_low : (P : Type 0) (low found : Result Symbol Fault) → IsLowered low found → IfOk found (λ symbol. P)
          → IfOk low (λ symbol. P)
      of_low P low (Ok symbol) is h = rw is h
      of_low P low (Err fault) is h = rw is tt

  pub told_of_data : (rooms : ModuleRooms) (answer : Answer) (info : SymbolInfo)
      → AnswersModules rooms answer info (asked options number bytes)
      → IfOk found_data (λ a. IfOk (symbol_data a) (λ symbol. IsDrawnAs symbol info))
  unfolding asked
  told_of_data rooms answer info = data_said (AnswersModules rooms answer info) (λ reason h. tt)
      (λ a bytes. found_said (AnswersModulesOutcome rooms answer info) (λ symbol h. h.1.1) (λ fault h. tt) _) _ _ bytes

  pub full_of_data : (room room_after : List ℕ) (told : ℕ) → PutsFull room room_after told (asked options number bytes)
      → MatchResult found_data (λ a. MatchResult (symbol_data a)
      (λ symbol. IsFullPut symbol.full room room_after told) (λ fault. room_after ≡ room)) (λ reason. room_after ≡ room)
  unfolding asked
  full_of_data room room_after told = data_said (PutsFull room room_after told) (λ reason h. h)
      (λ a bytes. found_said (PutsFullOutcome room room_after told) (λ symbol h. h) (λ fault h. h) _) _ _ bytes

  pub bitmap_of_data : (rooms : Rooms) (stride : ℕ) (told : ToldBitmap)
      → AnswersBitmap rooms stride told (asked options number bytes)
      → MatchResult found_data (λ a. MatchResult (symbol_data a)
      (λ symbol. PutsBitmap rooms stride told (picture_of a.options.run symbol))
      (λ fault. DeclinesBitmap rooms told (code_of fault) (place_of fault) (fault_text fault)))
      (λ reason. DeclinesBitmap rooms told reason.code reason.at [])
  unfolding asked
  bitmap_of_data rooms stride told = data_said (AnswersBitmap rooms stride told) (λ reason h. h)
      (λ a bytes. found_said (AnswersBitmapOutcome rooms stride told a.options.run) (λ symbol h. h) (λ fault h. h) _) _ _ bytes

  pub bitmap_of_data_reads : ReadsBitmap (asked options number bytes)
      → IfOk found_data (λ a. IfOk (symbol_data a) (IsReadInDots a.options.run))
  unfolding asked
  bitmap_of_data_reads = data_said ReadsBitmap (λ reason h. h)
      (λ a bytes. found_said (ReadsBitmapOutcome a.options.run) (λ symbol h. h) (λ fault h. h) _) _ _ bytes

-- ---- lines

-- the options of a line, or why it cannot be read
abbrev options_of_line : Result Options Reason → List ℕ → Result Options Reason
options_of_line (Err reason) text = Err reason
options_of_line (Ok options) text = if has_LF text then Err (record { code = 15; at = 0 }) else Ok options

-- A clause says of a line what it says of a reason, and of its item with its options: by the definition of `outcome` what
-- is drawn of the line. So each clause of the calls for lines says the same of the outcome of the line.
line_said : (clause : Result Asked Reason → Type 0) (options : Result Options Reason) (text : List ℕ)
    → clause (line_asked_of options text)
    → MatchResult (options_of_line options text)
    (λ found. clause (Ok (record { run = found.run; item = item found text }))) (λ reason. clause (Err reason))
line_said clause (Err reason) text h = h
line_said clause (Ok options) text h = by_LF (has_LF text) h
  where
    drawn_of : Bool → Result Asked Reason
    drawn_of lf = if lf then Err (record { code = 15; at = 0 }) else Ok (record { run = options.run; item = item options text })

    options_left : Bool → Result Options Reason
    options_left lf = if lf then Err (record { code = 15; at = 0 }) else Ok options

    by_LF : (lf : Bool) → clause (drawn_of lf) → MatchResult (options_left lf)
        (λ found. clause (Ok (record { run = found.run; item = item found text }))) (λ reason. clause (Err reason))
    by_LF true h = h
    by_LF false h = h
