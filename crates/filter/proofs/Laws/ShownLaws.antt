-- What a run produces, by what its images are read as.
use Rattle.filter.proofs.Laws.Words.{◌≡◌, ◌∙◌, ℕ, ◌+◌, ◌++◌, ◌||◌, Bool, List, [], ◌∷◌, Option, Some, None}
use Rattle.filter.proofs.Laws.Words.{Ok, Err, Result, refl, sym, ap, subst, inl, inr, append-nil, skipped, refused, drawn}
use Rattle.filter.proofs.Laws.Words.{Outcome, Request, Fault, RunValues, Options, Status, Symbol}
use Rattle.filter.proofs.Laws.Words.{Ean13, Ean8, UpcA, Code128, Qr, Images, Messages, Channel, Event, flushes, of_line}
use Rattle.filter.proofs.Laws.Words.{drawn_symbols, events_after, outcome, outcome_of_item, outcome_of, script, sent, symbol_of}
use Rattle.filter.proofs.Laws.Words.{Clean, Refused, qr_modules, linear_symbol, ok_or, status_of, is_refusal, if◌then◌else◌}
use Rattle.std.specs.List.{AllZip, filter_map, list_any}
use Rattle.labelcore.specs.LineItem.{item}
use Rattle.labelcore.specs.Settings.{◌>>=◌}
use Rattle.labelcore.specs.Lines.{lines}
use Rattle.labelcore.specs.declared.fault.Fault.TheVariants.{DoesNotFit}
use Rattle.labelcore.specs.declared.symbology.Symbology.{Symbology}
use Rattle.linear.specs.Code128.{code128_row, full_code128}
use Rattle.linear.specs.Digits.{full_digits}
use Rattle.linear.specs.Ean.{ean13_row, ean8_row, upca_row}
use Rattle.qrdata.specs.Fewest.{chosen_version}
use Rattle.qrdata.proofs.Laws.ReadFitLaws.{unread-none_fits}
use Rattle.qrdata.proofs.Laws.VersionSearchLaws.{NoneFits-chosen_none}
use Rattle.filter.specs.Output.{line_number, message_of}
use Rattle.filter.specs.Readback.{AreRead}
use Rattle.filter.specs.Reading.{cut}
use Rattle.filter.specs.Run.{Produces}
use Rattle.filter.specs.Shown.{HasFault, IsShown, Shown, Shows, full_data, image, image_in, is_told, messages_after, nothing}
use Rattle.filter.specs.Shown.{told}

-- what is drawn of a request, or why it is not
abbrev IsOf : Options → Symbology → List ℕ → Result Symbol Fault → Type 0
IsOf options symbology bytes (Ok symbol) =
    (symbol.symbology ≡ symbology) × (full_data symbology bytes ≡ Ok symbol.full)
IsOf options symbology bytes (Err fault) =
    HasFault (record { symbology = symbology; options = options; bytes = bytes }) fault

linear_is : (options : Options) (symbology : Symbology) (bytes : List ℕ) (row : List ℕ → List Bool)
    (found : Result (List ℕ) Fault) → full_data symbology bytes ≡ found
    → IsOf options symbology bytes (linear_symbol symbology row options.label found)
linear_is options symbology bytes row (Ok full) e = (refl, e)
linear_is options symbology bytes row (Err refusal) e = inl e

symbol_is : (options : Options) (symbology : Symbology) (bytes : List ℕ)
    → IsOf options symbology bytes (symbol_of options.label symbology bytes)
unfolding symbol_of
symbol_is options Ean13 bytes = linear_is options Ean13 bytes ean13_row (full_digits 12 bytes) refl
symbol_is options Ean8 bytes = linear_is options Ean8 bytes ean8_row (full_digits 7 bytes) refl
symbol_is options UpcA bytes = linear_is options UpcA bytes upca_row (full_digits 11 bytes) refl
symbol_is options Code128 bytes = linear_is options Code128 bytes code128_row (full_code128 bytes) refl
symbol_is options Qr bytes = at (chosen_version options.label.min_version options.label.level bytes) refl
  where
    at : (found : Option ℕ) → chosen_version options.label.min_version options.label.level bytes ≡ found
        → IsOf options Qr bytes (ok_or found (DoesNotFit options.label.level) >>= (λ version. Ok (record {
          symbology = Qr;
          full = bytes;
          modules = qr_modules options.label bytes version;
        })))
    at None e = inr (
      refl,
      refl,
      λ version codewords from to.
          unread-none_fits version options.label.level bytes
          (NoneFits-chosen_none options.label.min_version options.label.level bytes e version from to) codewords,
    )
    at (Some version) e = (refl, refl)

module _ (run : RunValues) where
  -- what is sent of one line, of which these are the images from it on
  record IsNext (asked : Outcome Request) (before : ℕ) (later : List Event) (images : List (List ℕ)) : Type 0 where
    rest : List (List ℕ)
    read : AreRead run.format run.scale rest (drawn_symbols later)
    shown : Shown
    is : IsShown run asked shown
    images_are : (all : List Shown) → rest ≡ filter_map image_in all → images ≡ filter_map image_in (shown ∷ all)
    messages_are : (all : List Shown) (more : List ℕ) → more ≡ messages_after (before + 1) all
        → message_of (line_number before) (outcome_of_item asked) ++ more ≡ messages_after before (shown ∷ all)
    told_is : is_refusal (of_line (line_number before) (outcome_of_item asked)) ≡ is_told shown

  next_drawn : (asked : Request) (before : ℕ) (later : List Event) (images : List (List ℕ)) (found : Result Symbol Fault)
      → symbol_of asked.options.label asked.symbology asked.bytes ≡ found
      → AreRead run.format run.scale images (drawn_symbols (of_line (line_number before) (outcome_of found) ∷ later))
      → IsNext (drawn asked) before later images
  unfolding drawn_symbols AreRead
  next_drawn asked before later [] (Ok symbol) e read = absurd read
  next_drawn asked before later (text ∷ images) (Ok symbol) e read =
      let is = subst (IsOf asked.options asked.symbology asked.bytes) e
      (symbol_is asked.options asked.symbology asked.bytes) in
      record {
        rest = images;
        read = read.1;
        shown = image text;
        is = (symbol, is.0, is.1, read.0);
        images_are = λ all same. ap (λ l. text ∷ l) same;
        messages_are = λ all more same.
            ap (λ o. message_of (line_number before) (outcome_of o) ++ more) e ∙ same;
        told_is = ap (λ o. is_refusal (of_line (line_number before) (outcome_of o))) e;
      }
  next_drawn asked before later images (Err fault) e read =
      let is = subst (IsOf asked.options asked.symbology asked.bytes) e
      (symbol_is asked.options asked.symbology asked.bytes) in
      record {
        rest = images;
        read = read;
        shown = told fault;
        is = is;
        images_are = λ all same. same;
        messages_are = λ all more same.
            (λ i. message_of (line_number before) (outcome_of (e i)) ++ same i);
        told_is = ap (λ o. is_refusal (of_line (line_number before) (outcome_of o))) e;
      }

  next : (asked : Outcome Request) (before : ℕ) (later : List Event) (images : List (List ℕ))
      → AreRead run.format run.scale images (drawn_symbols (of_line (line_number before) (outcome_of_item asked) ∷ later))
      → IsNext asked before later images
  unfolding drawn_symbols
  next skipped before later images read = record {
    rest = images;
    read = read;
    shown = nothing;
    is = tt;
    images_are = λ all same. same;
    messages_are = λ all more same. same;
    told_is = refl;
  }
  next (refused fault) before later images read = record {
    rest = images;
    read = read;
    shown = told fault;
    is = refl;
    images_are = λ all same. same;
    messages_are = λ all more same. ap (λ l. message_of (line_number before) (refused fault) ++ l) same;
    told_is = refl;
  }
  next (drawn asked) before later images read =
      next_drawn asked before later images (symbol_of asked.options.label asked.symbology asked.bytes) refl read

module _ (options : Options) where
  -- what is sent of all lines
  record AreShown (before : ℕ) (texts : List (List ℕ)) (images : List (List ℕ)) (events : List Event) : Type 0 where
    all : List Shown
    each : AllZip (λ line. IsShown options.run (item options line)) texts all
    images_are : images ≡ filter_map image_in all
    messages_are : sent options.run Messages events ≡ messages_after before all
    told_is : list_any is_refusal events ≡ list_any is_told all

  are_shown : (before : ℕ) (texts : List (List ℕ)) (images : List (List ℕ))
      → AreRead options.run.format options.run.scale images
      (drawn_symbols (events_after options before texts ++ flushes ∷ []))
      → AreShown before texts images (events_after options before texts ++ flushes ∷ [])
  unfolding events_after outcome drawn_symbols AreRead
  are_shown before [] [] read = record {
    all = [];
    each = tt;
    images_are = refl;
    messages_are = refl;
    told_is = refl;
  }
  are_shown before [] (text ∷ images) read = absurd read
  are_shown before (line ∷ texts) images read =
      let here = next options.run (item options line) before (events_after options (before + 1) texts ++ flushes ∷ [])
      images read in
      let there = are_shown (before + 1) texts here.rest here.read in
      record {
        all = here.shown ∷ there.all;
        each = (here.is, there.each);
        images_are = here.images_are there.all there.images_are;
        messages_are = here.messages_are there.all _ there.messages_are;
        told_is = (λ i. here.told_is i || there.told_is i);
      }

pub Shows-from : (options : Options) (gave : List ℕ → Type 0) (took : Channel → List ℕ → Type 0) (status : Status)
    → Produces options gave took (Ok status) → Shows options gave took status
unfolding status_of
Shows-from options gave took status p =
    let events = script options p.text in
    let stream = sent options.run Images events in
    let h = p.read events [] [] [] (sym (append-nil events)) refl in
    let are = are_shown options 0 (lines p.text) h.images h.read in
    record {
      text = p.text;
      given = p.given;
      shown = are.all;
      each = are.each;
      stream = stream;
      images = ap (cut options.run.format) (sym (append-nil stream)) ∙ h.whole refl ∙ are.images_are;
      took_images = p.sends Images;
      took_messages = subst (took Messages) are.messages_are (p.sends Messages);
      status_is = p.status ∙ ap (λ b. if b then Refused else Clean) are.told_is;
    }
