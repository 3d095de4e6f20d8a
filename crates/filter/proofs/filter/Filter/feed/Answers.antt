use Rattle.filter.proofs.Laws.Words.{ℕ, ◌∷◌, [], ◌++◌, Ok, Err, refl, ap, ◌∙◌, append_assoc, arith, length}
use Rattle.filter.proofs.Laws.Words.{length-append, append-nil, err_from_is_err_and, LF, ended_script, taken}
use Rattle.filter.proofs.Laws.FilterLaws.{are_bytes, ended_lines-more, ended_script-more}
use Rattle.filter.proofs.Laws.RunLaws.{FlushesNeither-append}
use Rattle.filter.proofs.Laws.ScriptLaws.{Sends-none, Sends-append, Sends-longer}
use Rattle.filter.proofs.filter.Filter.feed.Goals as goal

pub loop-line-init : goal.loop-line-init
loop-line-init g c = record {
  fed = [];
  whole = refl;
  feeds = λ options text at. rw (append-nil text) (record {
    sends = Sends-none options.run tt refl (g.met.O.Sink.took_none _) (g.met.E.Sink.took_none _);
    is_after = at;
  });
  sinks = record { counts = (refl, refl); out_unflushed = λ e. e; err_unflushed = λ e. e; passed_on = tt };
}

pub loop-line-smaller : goal.loop-line-smaller
loop-line-smaller g c = omega (arith, ap length c.in-Some.ensures.cut, length-append {A = ℕ})

pub loop-line-preserved : goal.loop-line-preserved
loop-line-preserved g c =
    let h = c.loop-line.invariant in
    let line = c.in-Some.line.now in
    record {
      fed = h.fed ++ (line ++ LF ∷ []);
      whole = h.whole ∙ simp (c.in-Some.ensures.cut, append_assoc);
      feeds = λ options text at.
          let before = h.feeds options text at in
          let next = c.in_ok-end_line.ensures.feeds options ((text ++ h.fed) ++ line)
          (c.hold.ensures options (text ++ h.fed) before.is_after) in
          rw (← append_assoc text h.fed (line ++ LF ∷ []), ← append_assoc (text ++ h.fed) line (LF ∷ [])) (record {
            sends = Sends-append g.met.O.Sink.took_joined g.met.E.Sink.took_joined options.run (Ok (tt {0}))
                before.sends (rw (ended_lines-more (text ++ h.fed) line c.in-Some.ensures.line) at next.sends);
            is_after = next.is_after;
          });
      sinks = FlushesNeither-append h.sinks (Ok tt) c.in_ok-end_line.ensures.sinks;
    }

pub returns-in_err-end_line-clause-feeds : goal.returns-in_err-end_line-clause-feeds
returns-in_err-end_line-clause-feeds g c options text at =
    let p = err_from_is_err_and c.from_residual.result c.from_residual.ensures.1 in
    let h = c.loop-line.invariant in
    let line = c.in-Some.line.now in
    let before = h.feeds options text at in
    let next = c.in_err-end_line.ensures.feeds options ((text ++ h.fed) ++ line)
    (c.hold.ensures options (text ++ h.fed) before.is_after) in
    let more = ended_script-more options (((text ++ h.fed) ++ line) ++ LF ∷ []) c.in-Some.later.now in
    let out = g.O.Sink.took c.args.out.now c.end_line.new.out in
    let err = g.E.Sink.took c.args.err.now c.end_line.new.err in
    rw (p.1, p.2) (record {
      sends = Sends-longer options.run {took = taken out err} more.0
          (ap (ended_script options) (simp (h.whole, c.in-Some.ensures.cut, append_assoc)) ∙ more.1)
          (Sends-append g.met.O.Sink.took_joined g.met.E.Sink.took_joined options.run (Err c.in_err-end_line.field-0.0)
          before.sends (rw (ended_lines-more (text ++ h.fed) line c.in-Some.ensures.line) at next.sends));
      is_after = tt;
    })

pub returns-in_err-end_line-clause-sinks : goal.returns-in_err-end_line-clause-sinks
returns-in_err-end_line-clause-sinks g c e =
    let p = err_from_is_err_and c.from_residual.result c.from_residual.ensures.1 in
    rw (p.1, p.2) (FlushesNeither-append c.loop-line.invariant.sinks (Err c.in_err-end_line.field-0.0)
    c.in_err-end_line.ensures.sinks)

pub returns-clause-feeds : goal.returns-clause-feeds
returns-clause-feeds g c options text at =
    let h = c.loop-line.invariant in
    let before = h.feeds options text at in
    let rest = c.loop-line.rest.now in
    rw (h.whole, ← append_assoc text h.fed rest) (record {
      sends = rw (ended_lines-more (text ++ h.fed) rest c.in_default.ensures.open) before.sends;
      is_after = c.hold-2.ensures options (text ++ h.fed) before.is_after;
    })

pub returns-clause-bytes : goal.returns-clause-bytes
returns-clause-bytes g c = are_bytes _ c.type_inv.piece

pub returns-in_err-end_line-clause-bytes : goal.returns-in_err-end_line-clause-bytes
returns-in_err-end_line-clause-bytes g c = are_bytes _ c.type_inv.piece

pub returns-then-self-clause-bytes : goal.returns-then-self-clause-bytes
returns-then-self-clause-bytes g c = are_bytes _ c.type_inv.piece
