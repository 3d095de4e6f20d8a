use Rattle.std.proofs.Common.{◌<◌, ◌∷◌, [], ◌++◌, Ok, Err, arith, refl}
use Rattle.std.proofs.lemmas.List.Elements.{All-append, All-from_get_or}
use Rattle.std.proofs.lemmas.Result.{err_from_is_err_and}
use Rattle.filter.specs.Filter.{taken}
use Rattle.filter.proofs.Laws.FilterLaws.{ended_script-more, some_later}
use Rattle.filter.proofs.Laws.RunLaws.{CountsFault-after, FlushesNeither-append, Produces-sends}
use Rattle.filter.proofs.Laws.ScriptLaws.{Sends-append, Sends-longer}
use Rattle.examples.proofs.pieces.draw_in_two.Goals as goal

pub returns-in_err-feed-clause-produces : goal.returns-in_err-feed-clause-produces
returns-in_err-feed-clause-produces g c =
    let options = c.args.options in
    let after = c.new-filter.ensures in
    let p = err_from_is_err_and c.from_residual.result c.from_residual.ensures.1 in
    let took = taken (g.O.Sink.took c.args.out.now c.feed.new.out) (g.E.Sink.took c.args.err.now
    c.feed.new.err) in
    let more = ended_script-more options c.args.first.now c.args.second.now in
    let later = some_later options (c.args.first.now ++ c.args.second.now) in
    let bytes = All-from_get_or (λ b. b < 256) c.args.second.now 0 (λ i within. omega (arith, c.type_inv.second i)) in
    rw (p.1, p.2) (Produces-sends options after.range (c.args.first.now ++ c.args.second.now)
    (Err c.in_err-feed.field-0.0) refl
    (All-append (λ b. b < 256) c.args.first.now c.args.second.now c.in_err-feed.ensures.bytes bytes)
    (Sends-longer options.run {took = took} (later.0 ∷ later.1) later.2
    (Sends-longer options.run {U = Unit {0}} {took = took} more.0 more.1
    (c.in_err-feed.ensures.feeds options [] after).sends)) tt)

pub returns-in_err-feed-2-clause-produces : goal.returns-in_err-feed-2-clause-produces
returns-in_err-feed-2-clause-produces g c =
    let options = c.args.options in
    let after = c.new-filter.ensures in
    let p = err_from_is_err_and c.from_residual-in_err-feed-2.result c.from_residual-in_err-feed-2.ensures.1 in
    let fed = c.in_ok-feed.ensures.feeds options [] after in
    let later = some_later options (c.args.first.now ++ c.args.second.now) in
    rw (p.1, p.2) (Produces-sends options after.range (c.args.first.now ++ c.args.second.now)
    (Err c.in_err-feed-2.field-0.0) refl
    (All-append (λ b. b < 256) c.args.first.now c.args.second.now fed.is_after.bytes c.in_err-feed-2.ensures.bytes)
    (Sends-longer options.run (later.0 ∷ later.1) later.2
    (Sends-append g.met.O.Sink.took_joined g.met.E.Sink.took_joined options.run (Err c.in_err-feed-2.field-0.0)
    fed.sends (c.in_err-feed-2.ensures.feeds options c.args.first.now fed.is_after).sends)) tt)

pub returns-clause-produces : goal.returns-clause-produces
returns-clause-produces g c =
    let options = c.args.options in
    let after = c.new-filter.ensures in
    let text = c.args.first.now ++ c.args.second.now in
    let fed = c.in_ok-feed.ensures.feeds options [] after in
    let fed_too = c.in_ok-feed-2.ensures.feeds options c.args.first.now fed.is_after in
    let sends = Sends-append g.met.O.Sink.took_joined g.met.E.Sink.took_joined options.run (Ok (tt {0})) fed.sends
    fed_too.sends in
    Produces-sends options after.range text c.finish.result refl fed_too.is_after.bytes
    (Sends-append g.met.O.Sink.took_joined g.met.E.Sink.took_joined options.run c.finish.result sends
    (c.finish.ensures.sends options text fed_too.is_after)) (c.finish.ensures.status options text fed_too.is_after)

pub returns-clause-counts : goal.returns-clause-counts
returns-clause-counts g c =
    let after = c.new-filter.ensures in
    let fed = (c.in_ok-feed.ensures.feeds c.args.options [] after).is_after in
    let fed_too = (c.in_ok-feed-2.ensures.feeds c.args.options c.args.first.now fed).is_after in
    let both = FlushesNeither-append (c.in_ok-feed.ensures.sinks after.is_spent) (Ok (tt {0}))
    (c.in_ok-feed-2.ensures.sinks fed.is_spent) in
    CountsFault-after both _ _ c.finish.result (c.finish.ensures.counts fed_too.is_spent)
