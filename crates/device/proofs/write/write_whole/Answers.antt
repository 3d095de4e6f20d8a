use Rattle.std.proofs.Common.{◌≡◌, List, ℕ, [], ◌++◌, take, ap, sym, ◌∙◌, refl, subst}
use Rattle.std.proofs.lemmas.Bool.{false≢true}
use Rattle.std.proofs.lemmas.List.{append-nil, nil_from_length}
use Rattle.device.proofs.PassingLaws.{cut_more, is_nil}
use Rattle.device.proofs.Laws.WritingLaws.{HasWritten, HasWritten-none, WritesText-fails, WritesText-whole}
use Rattle.device.proofs.write.write_whole.Goals as goal

pub loop-rest-init : goal.loop-rest-init
loop-rest-init g c = record {
  front = [];
  cut = refl;
  written = HasWritten-none g.S.Sink c.args.sink.now (g.met.S.Sink.took_none _);
}

pub returns-in_err-taken : goal.returns-in_err-taken
returns-in_err-taken g c =
    let h = c.loop-rest.invariant in
    let e = c.in_err-taken.ensures in
    WritesText-fails g.S.Sink g.met.S.Sink.took_joined {U = Unit {0}} {fault = c.in_err-taken.field-0.0} _ _ _
    h.front c.loop-rest.rest.now [] _ c.from_residual.result c.from_residual.ensures.0
    (h.cut ∙ sym (append-nil (h.front ++ c.loop-rest.rest.now))) h.written
    (record {
      bytes = ([], (c.loop-rest.rest.now, refl), e.bytes);
      count = e.count;
      unflushed = λ m. sym e.flushed
          ∙ m;
    })

pub loop-rest-preserved : goal.loop-rest-preserved
loop-rest-preserved g c =
    let h = c.loop-rest.invariant in
    let e = c.in_ok-taken.ensures in
    record {
      front = h.front ++ take c.in_ok-taken.taken c.loop-rest.rest.now;
      cut = cut_more c.args.bytes.now h.front c.loop-rest.rest.now c.in_ok-taken.taken h.cut;
      written = record {
        taken = g.met.S.Sink.took_joined _ _ _ _ _ h.written.taken e.bytes;
        uncounted = e.count ∙ h.written.uncounted;
        unflushed = λ m. absurd (false≢true (sym e.flushed ∙ m));
      };
    }

pub returns : goal.returns
returns g c =
    let h = c.loop-rest.invariant in
    let none : c.loop-rest.rest.now ≡ [] =
    nil_from_length _ (is_nil _ _ c.is_empty.ensures c.loop-rest-test.false) in
    let whole : h.front ≡ c.args.bytes.now = sym (append-nil h.front)
    ∙ (ap (λ (xs : List ℕ). h.front ++ xs) (sym none) ∙ sym h.cut) in
    WritesText-whole g.S.Sink _ _ _ tt (subst (HasWritten g.S.Sink c.args.sink.now c.loop-rest.sink) whole h.written)
