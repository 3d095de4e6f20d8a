-- Rows of bits, put one after another.
use Rattle.std.proofs.Common.{◌≡◌, ◌+◌, ◌*◌, ◌<◌, ◌≤◌, ℕ, zero, suc, List, ap, arith, ◌∙◌}
use Rattle.std.specs.Prelude.{Bool, Result, Ok, Err, IfOk, Some}
use Rattle.labelcore.specs.LineItem.{outcome_of}
use Rattle.labelcore.specs.OptionValues.{RunValues}
use Rattle.labelcore.specs.declared.fault.Fault.{Fault}
use Rattle.filter.specs.Output.{picture_of}
use Rattle.labelcore.specs.declared.symbology.Symbology.{Symbology}
use Rattle.filter.specs.Private.{HasModules}
use Rattle.filter.specs.Symbol.{Symbol, quiet_zone}
use Rattle.picture.specs.Picture.{AreEqualRows, Picture, enlargement, with_quiet_zone}
use Rattle.picture.specs.Reading.{raster}
use Rattle.picture.specs.Text.{pixel_row}
use Rattle.reading.specs.Found.{ReadingIsAlone}
use Rattle.reading.specs.Labels.{read_dots}
use Rattle.picture.proofs.Laws.GridLaws.{pixel_row-equal}
use Rattle.capi.specs.Bitmap.{AnswersBitmapOutcome, PutsBitmap, ReadsBitmapOutcome, bytes_of, put_bit_rows, row_size}
use Rattle.capi.specs.Private.BitRows.{put_equal}
use Rattle.capi.specs.Calls.{Rooms}
use Rattle.capi.specs.Room.{put_text}
use Rattle.capi.specs.declared.numbers.ToldBitmap.{ToldBitmap}

pub put_equal_more : (stride : ℕ) (row room : List ℕ) (y k : ℕ)
    → put_text (put_equal stride row room y k) ((y + k) * stride) row ≡ put_equal stride row room y (k + 1)
unfolding put_equal
put_equal_more stride row room y k =
    let next : suc k ≡ k + 1 = omega arith in ap (λ (n : ℕ). put_equal stride row room y n) next

-- rows that equal row y, from row y on
pub rows_more : (p : Picture) (stride : ℕ) (room : List ℕ) (y count : ℕ) (row : List ℕ) → AreEqualRows p y count
    → row ≡ bytes_of (pixel_row p y) (row_size p) → (n : ℕ) → n ≤ count
    → put_equal stride row (put_bit_rows p stride room y) y n ≡ put_bit_rows p stride room (y + n)
unfolding put_equal put_bit_rows
rows_more p stride room y count row same e zero h =
    let none : y ≡ y + 0 = omega arith in ap (λ (m : ℕ). put_bit_rows p stride room m) none
rows_more p stride room y count row same e (suc n) h =
    let next : suc (y + n) ≡ y + suc n = omega arith in
    let here : row ≡ bytes_of (pixel_row p (y + n)) (row_size p) =
    e ∙ ap (λ (dots : List Bool). bytes_of dots (row_size p))
    (pixel_row-equal p y count (y + n) same (omega arith) (omega (arith, h))) in
    ap (λ (r : List ℕ). put_text r ((y + n) * stride) row) (rows_more p stride room y count row same e n (omega (arith, h)))
    ∙ (ap (λ (r : List ℕ). put_text (put_bit_rows p stride room (y + n)) ((y + n) * stride) r) here
    ∙ ap (λ (m : ℕ). put_bit_rows p stride room m) next)

-- what is read at its scale is read where no scale is told
pub read_in_dots : (run : RunValues) (found : Result Symbol Fault) → 0 < run.scale → ReadingIsAlone
    → IfOk found (λ symbol. read_dots symbol.symbology run.scale (raster (picture_of run symbol)) ≡ Some symbol.full)
    → ReadsBitmapOutcome run (outcome_of found)
read_in_dots run (Ok symbol) low alone read = alone _ symbol.symbology run.scale symbol.full low read
read_in_dots run (Err fault) low alone read = tt

-- the dots of modules are those of a symbol that has them
pub bitmap_of_modules : (rooms : Rooms) (stride : ℕ) (told : ToldBitmap) (run : RunValues) (found : Result Symbol Fault)
    (symbology : Symbology) (p : Picture) → HasModules found symbology p
    → PutsBitmap rooms stride told (enlargement (with_quiet_zone p (quiet_zone symbology)) run.scale)
    → AnswersBitmapOutcome rooms stride told run (outcome_of found)
bitmap_of_modules rooms stride told run (Ok symbol) symbology p has puts = rw (has.0, has.1) puts
bitmap_of_modules rooms stride told run (Err fault) symbology p has puts = absurd has
