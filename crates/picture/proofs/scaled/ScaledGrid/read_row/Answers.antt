use Rattle.std.proofs.Common.{◌≡◌, ◌*◌, ◌/◌, ◌∙◌, ◌≤◌, ℕ, Bool, length, length-append, length-drop, ap, sym, arith}
use Rattle.std.proofs.lemmas.List.FromFn.{length-map-range_with_len}
use Rattle.std.proofs.lemmas.Nat.{div_below, mul-le}
use Rattle.picture.proofs.Laws.GridLaws.{spread-pixel_row}
use Rattle.picture.proofs.scaled.ScaledGrid.read_row.Goals as goal

-- a row is no longer than an enlarged one
fits : (w width s size : ℕ) → w ≡ width → 1 ≤ s → size ≡ width * s → w ≤ size
fits w width s size same some whole = let most = mul-le width 1 width s (omega arith) some in omega arith

pub slice_bounds-read_pixels-end : goal.slice_bounds-read_pixels-end
slice_bounds-read_pixels-end g c = fits _ _ c.args.self.now.scale _ c.width-width.ensures (omega arith) c.requires.whole

pub read_pixels-requires-clause-in_height : goal.read_pixels-requires-clause-in_height
read_pixels-requires-clause-in_height g c =
    let s = c.args.self.now in
    div_below c.args.y s.scale (g.G.Grid.picture s.grid).height (omega arith) c.requires.in_height

pub spread-requires-clause-whole : goal.spread-requires-clause-whole
spread-requires-clause-whole g c =
    let s = c.args.self.now in
    let p = g.G.Grid.picture s.grid in
    let w = c.width-width.result in
    let size : length c.args.pixels.now ≡ w * s.scale =
    c.requires.whole ∙ ap (λ (n : ℕ). n * s.scale) (sym c.width-width.ensures) in
    let row : length c.read_pixels.new.pixels ≡ p.width =
    ap length c.read_pixels.ensures ∙ length-map-range_with_len (λ x. p.dark x (c.args.y / s.scale)) 0 p.width in
    let within : w ≤ length c.args.pixels.now =
    fits w p.width s.scale _ c.width-width.ensures (omega arith) c.requires.whole in
    omega (arith, length-append {A = Bool}, length-drop {A = Bool})

pub returns : goal.returns
returns g c =
    c.spread.ensures
    ∙ spread-pixel_row (g.G.Grid.picture c.args.self.now.grid)
    c.args.self.now.scale c.args.y c.read_pixels.new.pixels c.args.pixels.now c.width-width.result (omega arith)
    c.width-width.ensures c.requires.whole c.read_pixels.ensures
