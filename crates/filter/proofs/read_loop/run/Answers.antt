use Rattle.filter.proofs.Laws.Words.{◌<◌, ◌++◌, Err, take, ◌∙◌, subst, arith, length-append, length-take}
use Rattle.filter.proofs.Laws.Words.{inl, inr, rules, sym, append-nil, All-append, err_from_is_err_and, OnOk}
use Rattle.filter.proofs.Laws.Words.{Result, taken, ◌∷◌, []}
use Rattle.filter.proofs.Laws.FilterLaws.{some_later}
use Rattle.filter.proofs.Laws.RunLaws.{HasRun-append, HasRun-none, HasRun-passed, Runs-after, Runs-read, Runs-unpassed}
use Rattle.filter.proofs.Laws.ScriptLaws.{Sends-longer}
use Rattle.filter.proofs.read_loop.run.Goals as goal

pub returns-in_default : goal.returns-in_default
returns-in_default g c = Runs-unpassed g.met.O.Sink.took_joined g.met.E.Sink.took_joined
    (HasRun-none g.S.Source g.O.Sink g.E.Sink c.args.options c.args.source.now c.args.out.now c.args.err.now
    (g.met.S.Source.gave_none _) (g.met.O.Sink.took_none _) (g.met.E.Sink.took_none _) c.new-filter.ensures)
    (g.met.E.Sink.took_none _) c.in_default.ensures

pub loop-turn-init : goal.loop-turn-init
loop-turn-init g c = record {
  given = [];
  enough = omega arith;
  unended = λ e. e;
  passed_on = c.in-Ok.ensures.buffered;
  so_far = HasRun-passed g.met.O.Sink.took_joined g.met.E.Sink.took_joined
      (HasRun-none g.S.Source g.O.Sink g.E.Sink c.args.options c.args.source.now c.args.out.now c.args.err.now
      (g.met.S.Source.gave_none _) (g.met.O.Sink.took_none _) (g.met.E.Sink.took_none _) c.new-filter.ensures)
      (g.met.E.Sink.took_none _) c.in-Ok.ensures;
}

pub returns-in_default-read : goal.returns-in_default-read
returns-in_default-read g c =
    let i = c.loop-turn.invariant in
    let h = i.so_far in
    Runs-read g.met.O.Sink.took_joined g.met.E.Sink.took_joined h
    (subst (g.S.Source.gave c.args.source.now c.read.new.self) (append-nil i.given)
    (g.met.S.Source.gave_joined _ _ _ _ _ h.gave c.in_default-read.ensures.bytes))
    (inl (rw h.count at c.in_default-read.ensures.count)) (λ e. i.unended (sym c.in_default-read.ensures.end ∙ e))
    i.passed_on

pub returns : goal.returns
returns g c =
    let i = c.loop-turn.invariant in
    Runs-read g.met.O.Sink.took_joined g.met.E.Sink.took_joined i.so_far i.so_far.gave
    (inr (i.so_far.count, omega arith)) i.unended i.passed_on

-- where the call returned, a fact
at_ok : {T E : Type 0} {P : Type 0} (r : Result T E) → P → OnOk r P
at_ok r holds = grind (arith, holds)

pub returns-then-count-eq0 : goal.returns-then-count-eq0
returns-then-count-eq0 g c =
    let given = c.loop-turn.invariant.given in
    let h = c.loop-turn.invariant.so_far in
    Runs-after g.met.O.Sink.took_joined g.met.E.Sink.took_joined h given c.finish.result
    (subst (g.S.Source.gave c.args.source.now c.read.new.self) (append-nil given)
    (g.met.S.Source.gave_joined _ _ _ _ _ h.gave (rw c.if-count-eq0.true at c.in-Ok-read.ensures.bytes)))
    c.in-Ok-read.ensures.count h.fed.is_after.bytes (c.finish.ensures.sends c.args.options given h.fed.is_after)
    (c.finish.ensures.status c.args.options given h.fed.is_after) (at_ok c.finish.result (search rules, search rules))
    (c.finish.ensures.counts h.fed.is_after.is_spent) c.finish.ensures.flushed c.finish.ensures.passed_on

pub returns-in_err-feed : goal.returns-in_err-feed
returns-in_err-feed g c =
    let p = err_from_is_err_and c.from_residual.result c.from_residual.ensures.1 in
    let given = c.loop-turn.invariant.given in
    let h = c.loop-turn.invariant.so_far in
    let options = c.args.options in
    let piece = take c.in-Ok-read.count c.read.new.buf in
    let later = some_later options (given ++ piece) in
    let sinks = c.in_err-feed.ensures.sinks h.fed.is_after.is_spent in
    rw (p.1, p.2) (Runs-after g.met.O.Sink.took_joined g.met.E.Sink.took_joined h (given ++ piece)
    (Err c.in_err-feed.field-0.0) (g.met.S.Source.gave_joined _ _ _ _ _ h.gave c.in-Ok-read.ensures.bytes)
    c.in-Ok-read.ensures.count (All-append (λ b. b < 256) given piece h.fed.is_after.bytes c.in_err-feed.ensures.bytes)
    (Sends-longer options.run {took = taken (g.O.Sink.took c.loop-turn.out c.feed.new.out) (g.E.Sink.took
    c.loop-turn.err c.feed.new.err)} (later.0 ∷ later.1) later.2
    (c.in_err-feed.ensures.feeds options given h.fed.is_after).sends) tt tt sinks.counts
    (λ other. sinks.out_unflushed, sinks.err_unflushed) sinks.passed_on)

pub returns-in_default-pass_on : goal.returns-in_default-pass_on
returns-in_default-pass_on g c =
    let given = c.loop-turn.invariant.given in
    let h = c.loop-turn.invariant.so_far in
    Runs-unpassed g.met.O.Sink.took_joined g.met.E.Sink.took_joined
    (HasRun-append g.met.O.Sink.took_joined g.met.E.Sink.took_joined h
    (g.met.S.Source.gave_joined _ _ _ _ _ h.gave c.in-Ok-read.ensures.bytes) c.in-Ok-read.ensures.count
    (c.in_ok-feed.ensures.feeds c.args.options given h.fed.is_after)
    (c.in_ok-feed.ensures.sinks h.fed.is_after.is_spent))
    (g.met.E.Sink.took_none _) c.in_default-pass_on.ensures

pub loop-turn-preserved : goal.loop-turn-preserved
loop-turn-preserved g c =
    let given = c.loop-turn.invariant.given in
    let h = c.loop-turn.invariant.so_far in
    let piece = take c.in-Ok-read.count c.read.new.buf in
    record {
      given = given ++ piece;
      enough = omega (arith, length-append given piece, length-take c.in-Ok-read.count c.read.new.buf);
      unended = λ e. grind (arith, e, c.in-Ok-read.ensures.end, c.if-count-eq0.false);
      passed_on = c.in-Ok-pass_on.ensures.buffered;
      so_far = HasRun-passed g.met.O.Sink.took_joined g.met.E.Sink.took_joined
          (HasRun-append g.met.O.Sink.took_joined g.met.E.Sink.took_joined h
          (g.met.S.Source.gave_joined _ _ _ _ _ h.gave c.in-Ok-read.ensures.bytes) c.in-Ok-read.ensures.count
          (c.in_ok-feed.ensures.feeds c.args.options given h.fed.is_after)
          (c.in_ok-feed.ensures.sinks h.fed.is_after.is_spent))
          (g.met.E.Sink.took_none _) c.in-Ok-pass_on.ensures;
    }
