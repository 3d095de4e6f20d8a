use Rattle.std.proofs.Common.{true≢false}
use Rattle.filter.proofs.Laws.Words.{◌≡◌, ◌∙◌, [], ◌∷◌, ap, refl, subst, sym, err_from_is_err_and, FilterState, IfOk, Status}
use Rattle.filter.proofs.Laws.Words.{flushes, status_of, taken}
use Rattle.filter.proofs.Laws.FilterLaws.{status_of-flushes}
use Rattle.filter.proofs.Laws.RunLaws.{CountsFault-after, FlushesImagesFirst-after}
use Rattle.filter.proofs.Laws.ScriptLaws.{Sends-append, Sends-longer}
use Rattle.filter.proofs.filter.Filter.finish.Goals as goal

pub returns-then-self : goal.returns-then-self
returns-then-self g c =
    let spent = sym c.if-self.true ∙ ap (λ (s : FilterState). s.is_spent) c.self.view_is in
    record {
      sends = λ options text at. elim (true≢false (spent ∙ at.is_spent)) [ ];
      status = λ options text at. tt;
      flushed = (λ other e. e, λ e. e);
      counts = λ not_spent. elim (true≢false (spent ∙ not_spent)) [ ];
      passed_on = tt;
      spent = λ e. (refl, refl, refl);
    }

pub returns-in_err-end_open_line : goal.returns-in_err-end_open_line
returns-in_err-end_open_line g c =
    let p = err_from_is_err_and c.from_residual.result c.from_residual.ensures.1 in
    let isnt = ap (λ (s : FilterState). s.is_spent) (sym c.self.view_is) ∙ c.if-self.false in
    let call = c.in_err-end_open_line.ensures in
    rw (p.1, p.2) (record {
      sends = λ options text at. let h = call.feeds options text at in
          Sends-longer options.run {took = taken (g.O.Sink.took c.args.out.now c.end_open_line.new.out) (g.E.Sink.took
          c.args.err.now c.end_open_line.new.err)} (flushes ∷ []) h.1 h.2.sends;
      status = λ options text at. tt;
      flushed = (λ other. call.sinks.out_unflushed, call.sinks.err_unflushed);
      counts = λ e. call.sinks.counts;
      passed_on = call.sinks.passed_on;
      spent = λ spent. elim (true≢false (sym spent ∙ isnt)) [ ];
    })

pub returns : goal.returns
returns g c =
    let isnt = ap (λ (s : FilterState). s.is_spent) (sym c.self.view_is) ∙ c.if-self.false in
    let before = c.in_ok-end_open_line.ensures in
    let flush = c.flush_both.ensures in
    let r = c.flush_both.result in
    record {
      sends = λ options text at. let h = before.feeds options text at in
          Sends-append g.met.O.Sink.took_joined g.met.E.Sink.took_joined options.run r h.2.sends
          (record { added = flushes ∷ []; grown = h.1; sends = flush.sends options.run });
      status = λ options text at. let h = before.feeds options text at in
          subst (λ (status : Status). IfOk r (λ same. same ≡ status))
          (ap (λ (s : FilterState). s.status) c.self-2.view_is ∙ (h.2.is_after.status_is
          ∙ (sym (status_of-flushes _) ∙ ap status_of (sym h.1)))) flush.status;
      flushed = FlushesImagesFirst-after before.sinks _ _ r flush.flushed;
      counts = λ e. CountsFault-after before.sinks _ _ r flush.counts;
      passed_on = flush.passed_on;
      spent = λ spent. elim (true≢false (sym spent ∙ isnt)) [ ];
    }
