use Rattle.filter.proofs.Laws.Words.{◌∙◌, [], ap, refl, sym, subst, ◌≡◌, ℕ, List, ◌∷◌, Ok, Err, skipped, refused, Outcome}
use Rattle.filter.proofs.Laws.Words.{item, Images, image_of, of_line, outcome_of, outcome_of_item, message_of, outcome}
use Rattle.filter.proofs.Laws.Words.{arith, status_of, symbol_of, Options, Fault, Symbol, Clean, refusal_of, taken}
use Rattle.labelcore.specs.ItemView.{item_seen}
use Rattle.labelcore.specs.declared.item.Item.{Item}
use Rattle.filter.proofs.Laws.ScriptLaws.{both, event_stops, event_took, none_taken}
use Rattle.filter.proofs.line_end.finish_line.Goals as goal

-- what is drawn of a line, by the item that was found
outcome-found : (options : Options) (line : List ℕ) {result found : Item} → result ≡ found
    → item_seen result ≡ item options line → outcome options line ≡ outcome_of_item (item_seen found)
unfolding outcome
outcome-found options line is seen = ap outcome_of_item (sym seen ∙ ap item_seen is)

-- a line that is not refused
drawn_line : (number : ℕ) (o : Outcome Symbol) → refusal_of o ≡ Ok tt
    → ([] ≡ message_of number o) × (Clean ≡ status_of (of_line number o ∷ []))
unfolding status_of
drawn_line number o e = grind arith

-- a line that is refused
refused_outcome : (o : Outcome Symbol) (fault : Fault) → refusal_of o ≡ Err fault → o ≡ refused fault
refused_outcome o fault e = grind arith

pub returns-in-Skip-clause-sends : goal.returns-in-Skip-clause-sends
returns-in-Skip-clause-sends g c text at =
    rw (outcome-found c.args.options.now text c.in-Skip.is (c.parse.ensures.item text at))
    (event_took c.args.options.now.run _ _ (of_line c.args.number skipped) (g.met.O.Sink.took_none c.args.out.now)
    (g.met.E.Sink.took_none c.args.err.now))

pub returns-in-Skip-clause-status : goal.returns-in-Skip-clause-status
returns-in-Skip-clause-status g c text at =
    rw (outcome-found c.args.options.now text c.in-Skip.is (c.parse.ensures.item text at))
    (drawn_line c.args.number skipped refl).1

pub returns-in-Refuse-clause-sends : goal.returns-in-Refuse-clause-sends
returns-in-Refuse-clause-sends g c text at =
    rw (outcome-found c.args.options.now text c.in-Refuse.is (c.parse.ensures.item text at))
    (c.refuse.ensures.sends c.args.options.now.run)

pub returns-in-Refuse-clause-status : goal.returns-in-Refuse-clause-status
returns-in-Refuse-clause-status g c text at =
    rw (outcome-found c.args.options.now text c.in-Refuse.is (c.parse.ensures.item text at)) c.refuse.ensures.status

pub returns-in-Ok-Ok : goal.returns-in-Ok-Ok
returns-in-Ok-Ok g c =
    let options = c.args.options.now in
    let o = outcome_of (symbol_of c.in-Draw.own.label c.in-Draw.symbology c.in-Draw.bytes.now) in
    let h = c.in-Ok-Ok.ensures.drawn in
    let clean = drawn_line c.args.number o (sym h.refusal ∙ c.in-Ok-Ok.field-0-is) in
    let took = g.E.Sink.took c.args.err.now c.args.err.now in
    record {
      sends = λ text at. rw (outcome-found options text c.in-Draw.is (c.parse.ensures.item text at))
          (event_took options.run _ took (of_line c.args.number o) h.writes.bytes
          (subst took clean.0 (g.met.E.Sink.took_none c.args.err.now)));
      status = λ text at. rw (outcome-found options text c.in-Draw.is (c.parse.ensures.item text at)) clean.1;
      sinks = record {
        counts = (h.writes.count, refl);
        out_unflushed = h.writes.unflushed;
        err_unflushed = λ e. e;
        passed_on = tt;
      };
    }

pub returns-in-Ok-Err : goal.returns-in-Ok-Err
returns-in-Ok-Err g c =
    let options = c.args.options.now in
    let o = outcome_of (symbol_of c.in-Draw.own.label c.in-Draw.symbology c.in-Draw.bytes.now) in
    let h = c.in-Ok-Err.ensures.drawn in
    let is = refused_outcome o c.in-Ok-Err.fault (sym h.refusal ∙ c.in-Ok-Err.field-0-is) in
    let none = subst (g.O.Sink.took c.args.out.now c.draw_in.new.out) (ap (image_of options.run) is) h.writes.bytes in
    let refuse = c.refuse-in-Ok-Err.ensures in
    record {
      sends = λ text at. rw (outcome-found options text c.in-Draw.is (c.parse.ensures.item text at) ∙ is)
          (both g.met.O.Sink.took_joined g.met.E.Sink.took_joined options.run c.args.out.now c.draw_in.new.out
          c.refuse-in-Ok-Err.new.out c.args.err.now c.args.err.now c.refuse-in-Ok-Err.new.err []
          (of_line c.args.number (refused c.in-Ok-Err.fault) ∷ []) c.refuse-in-Ok-Err.result
          (none_taken _ _ none (g.met.E.Sink.took_none c.args.err.now)) (refuse.sends options.run));
      status = λ text at.
          rw (outcome-found options text c.in-Draw.is (c.parse.ensures.item text at) ∙ is) refuse.status;
      sinks = record {
        counts = rw h.writes.count at refuse.sinks.counts;
        out_unflushed = λ e. h.writes.unflushed (refuse.sinks.out_unflushed e);
        err_unflushed = refuse.sinks.err_unflushed;
        passed_on = refuse.sinks.passed_on;
      };
    }

pub returns-in-Err : goal.returns-in-Err
returns-in-Err g c =
    let options = c.args.options.now in
    let o = outcome_of (symbol_of c.in-Draw.own.label c.in-Draw.symbology c.in-Draw.bytes.now) in
    let writes = c.in-Err.ensures.drawn.writes in
    let out = g.O.Sink.took c.args.out.now c.draw_in.new.out in
    let err = g.E.Sink.took c.args.err.now c.args.err.now in
    record {
      sends = λ text at. rw (outcome-found options text c.in-Draw.is (c.parse.ensures.item text at))
          (event_stops options.run (taken out err) Images (of_line c.args.number o) [] writes.bytes
          (g.met.E.Sink.took_none c.args.err.now));
      status = λ text at. tt;
      sinks = record {
        counts = (writes.count, refl);
        out_unflushed = writes.unflushed;
        err_unflushed = λ e. e;
        passed_on = tt;
      };
    }
