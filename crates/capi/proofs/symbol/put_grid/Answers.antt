use Rattle.std.proofs.Common.{◌≡◌, ◌≤◌, ◌+◌, ◌*◌, ◌-◌, ◌++◌, [], ◌∷◌, append-nil, ◌∙◌, ℕ, List, length, take, drop, flat_map, arith, refl, ap, sym, length-take-le, length-drop, zero-add}
use Rattle.std.specs.Prelude.{Bool}
use Rattle.std.proofs.Math.Nat.{add-mul, mul_comm, mul-le-mul_right}
use Rattle.std.proofs.Math.Seq.{take-append-add}
use Rattle.std.proofs.lemmas.List.{take-take}
use Rattle.std.proofs.lemmas.Slice.{take-put_mid, drop-put_mid}
use Rattle.std.proofs.lemmas.List.Concat.{flat_map-append}
use Rattle.std.specs.List.{range_with_len}
use borrow.Rule.Slice.PartMut.{put_mid, same_len_mid}
use Rattle.picture.proofs.Laws.WritingLaws.{range_with_len-add}
use Rattle.picture.specs.Picture.{Picture}
use Rattle.picture.specs.Text.{below, pixel_row}
use Rattle.capi.proofs.symbol.put_grid.Goals as goal

-- one more row
more_rows : (p : Picture) (y : ℕ) → flat_map (pixel_row p) (below y) ++ pixel_row p y
    ≡ flat_map (pixel_row p) (below (y + 1))
more_rows p y =
    let row : ℕ → List Bool = pixel_row p in
    ap (λ (l : List Bool). flat_map row (below y) ++ l) (sym (append-nil (row y)))
    ∙ (sym (flat_map-append row (below y) (y ∷ []))
    ∙ ap (flat_map row) (let last : range_with_len y 1 ≡ y ∷ [] = refl in
    sym (range_with_len-add 0 y 1 ∙ rw (zero-add y) refl)))

-- the front of a room whose part from `at` to `all` was written over
front : (at all w : ℕ) (room part : List Bool) → at ≤ length room → at + w ≤ all → length part ≡ all - at
    → take (at + w) (put_mid at (all - at) room part) ≡ take at room ++ take w part
front at all w room part inside fits long =
    let front_long : length (take at room) ≡ at = length-take-le at room inside in
    sym (take-take (at + w) all (put_mid at (all - at) room part) fits)
    ∙ (ap (take (at + w)) (take-put_mid at (all - at) room part all (omega (arith, long, fits)) inside)
    ∙ (ap (λ (n : ℕ). take (n + w) (take at room ++ part)) (sym front_long)
    ∙ take-append-add (take at room) part w))

pub loop-y-preserved : goal.loop-y-preserved
loop-y-preserved g c =
    let p = g.G.Grid.picture c.args.grid.now in
    let w = c.width-width.result in
    let all = c.width-width.result * c.height-height.result in
    let y = c.loop-y.y in
    let at = c.loop-y.at in
    let modules = c.loop-y.modules in
    let part = c.put_row.new.room in
    let inv = c.loop-y.invariant in
    let wide : w ≡ p.width = c.width-width.ensures in
    let high : y + 1 ≤ p.height = omega (arith, c.loop-y-test.true, c.height-height.ensures) in
    let next : (y + 1) * p.width ≡ y * p.width + p.width = omega (arith, add-mul y 1 p.width) in
    let within : (y + 1) * p.width ≤ p.height * p.width = mul-le-mul_right p.width high in
    let all_is : all ≡ p.width * p.height = λ i. c.width-width.ensures i * c.height-height.ensures i in
    let fits : at + w ≤ all = omega (arith, inv.place, wide, next, within, all_is, mul_comm p.width p.height) in
    let inside : all ≤ length modules = omega (arith, all_is, c.requires, inv.size) in
    let long : length part ≡ all - at = c.put_row.auto.room
    ∙ length-take-le (all - at) (drop at modules) (omega (arith, inside, length-drop at modules)) in
    record {
      place = omega (arith, inv.place, wide, next);
      size = same_len_mid at (all - at) modules part c.put_row.auto.room ∙ inv.size;
      rows = front at all w modules part (omega (arith, fits, inside)) fits long
          ∙ (ap (λ (l : List Bool). l ++ take w part) inv.rows
          ∙ (ap (λ (l : List Bool). flat_map (pixel_row p) (below y) ++ l)
          (ap (λ (n : ℕ). take n part) wide ∙ c.put_row.ensures) ∙ more_rows p y));
      rest = drop-put_mid at (all - at) modules part (p.width * p.height) (omega (arith, fits, all_is)) (omega (arith, fits, inside)) long
          ∙ inv.rest;
    }
