use Rattle.std.proofs.Common.{◌≡◌, ◌∙◌, option_map, sym}
use Rattle.reading.proofs.FirstLaws.{from_first, light_in_vain}
use Rattle.reading.proofs.FoundLaws.{narrow, or_absent, or_none, or_present}
use Rattle.reading.specs.Found.{found_of, upright_reading}
use Rattle.reading.proofs.found.read_any.Goals as goal

pub returns-then-is_some-clause-read : goal.returns-then-is_some-clause-read
returns-then-is_some-clause-read g c =
    let upright : option_map found_of c.read_first-found.result ≡ upright_reading 0 (g.G.Grid.picture c.args.dots.now) =
    c.read_first-found.ensures ∙ from_first _ _ _ c.in-Some.ensures 0 in
    or_present found_of c.read_first-found.result _ _ upright (sym c.is_some.ensures ∙ c.if-is_some.true)

pub returns-then-is_some-clause-narrow : goal.returns-then-is_some-clause-narrow
returns-then-is_some-clause-narrow g c = narrow (g.G.Grid.picture c.args.dots.now) _ (returns-then-is_some-clause-read g c)

pub returns-then-is_some-2-clause-read : goal.returns-then-is_some-2-clause-read
returns-then-is_some-2-clause-read g c =
    let upright : option_map found_of c.read_first-found.result ≡ upright_reading 0 (g.G.Grid.picture c.args.dots.now) =
    c.read_first-found.ensures ∙ from_first _ _ _ c.in-Some.ensures 0 in
    or_present found_of c.read_upright-found.result _ _ c.read_upright-found.ensures.read
    (sym c.is_some-2.ensures ∙ c.if-is_some-2.true)
    ∙ sym (or_absent found_of c.read_first-found.result _ _ upright (sym c.is_some.ensures ∙ c.if-is_some.false))

pub returns-then-is_some-2-clause-narrow : goal.returns-then-is_some-2-clause-narrow
returns-then-is_some-2-clause-narrow g c =
    narrow (g.G.Grid.picture c.args.dots.now) _ (returns-then-is_some-2-clause-read g c)

pub returns-then-is_some-3-clause-read : goal.returns-then-is_some-3-clause-read
returns-then-is_some-3-clause-read g c =
    let upright : option_map found_of c.read_first-found.result ≡ upright_reading 0 (g.G.Grid.picture c.args.dots.now) =
    c.read_first-found.ensures ∙ from_first _ _ _ c.in-Some.ensures 0 in
    or_present found_of c.read_upright-found-2.result _ _ c.read_upright-found-2.ensures.read
    (sym c.is_some-3.ensures ∙ c.if-is_some-3.true)
    ∙ sym (or_absent found_of c.read_upright-found.result _ _ c.read_upright-found.ensures.read
    (sym c.is_some-2.ensures ∙ c.if-is_some-2.false))
    ∙ sym (or_absent found_of c.read_first-found.result _ _ upright (sym c.is_some.ensures ∙ c.if-is_some.false))

pub returns-then-is_some-3-clause-narrow : goal.returns-then-is_some-3-clause-narrow
returns-then-is_some-3-clause-narrow g c =
    narrow (g.G.Grid.picture c.args.dots.now) _ (returns-then-is_some-3-clause-read g c)

pub returns-clause-read : goal.returns-clause-read
returns-clause-read g c =
    let upright : option_map found_of c.read_first-found.result ≡ upright_reading 0 (g.G.Grid.picture c.args.dots.now) =
    c.read_first-found.ensures ∙ from_first _ _ _ c.in-Some.ensures 0 in
    c.read_upright.ensures.read ∙ sym (or_none _)
    ∙ sym (or_absent found_of c.read_upright-found-2.result _ _ c.read_upright-found-2.ensures.read
    (sym c.is_some-3.ensures ∙ c.if-is_some-3.false))
    ∙ sym (or_absent found_of c.read_upright-found.result _ _ c.read_upright-found.ensures.read
    (sym c.is_some-2.ensures ∙ c.if-is_some-2.false))
    ∙ sym (or_absent found_of c.read_first-found.result _ _ upright (sym c.is_some.ensures ∙ c.if-is_some.false))

pub returns-clause-narrow : goal.returns-clause-narrow
returns-clause-narrow g c = narrow (g.G.Grid.picture c.args.dots.now) _ (returns-clause-read g c)

pub returns-in_default-clause-read : goal.returns-in_default-clause-read
returns-in_default-clause-read g c = sym (light_in_vain (g.G.Grid.picture c.args.dots.now) c.in_default.ensures)
