use Rattle.filter.proofs.Laws.Words.{◌≡◌, refl}
use Rattle.filter.proofs.Laws.Words.{script}
use Rattle.std.proofs.KnownBytes.{Consumes-whole}
use Rattle.filter.proofs.Laws.ScriptLaws.{images_by, Took-by}
use Rattle.filter.proofs.Laws.ShownLaws.{Shows-from}
use Rattle.filter.proofs.streams.run_streams.Goals as goal

pub returns-in-Ok : goal.returns-in-Ok
returns-in-Ok g c =
    let h = c.in-Ok.ensures in
    let p = h.produces in
    let given = Consumes-whole _ _ p.text (λ bytes. p.text ≡ bytes) p.given.0 h.ended.1 refl in
    let sends = Took-by c.args.options.run (images_by _ _ _ (λ bytes took.
    c.prove_reached.ensures.bytes h.flushed.0 _ _ bytes took)) (script c.args.options p.text) p.sends in
    record {
      runs = h;
      whole = record { text = p.text; given = given; sends = sends; status = p.status; read = p.read };
      shows = Shows-from c.args.options _ _ _
          (record { text = p.text; given = given; sends = sends; status = p.status; read = p.read });
      reaches = (c.prove_reached.ensures.buffered h.flushed.0, c.prove_reached.ensures.below h.flushed.0);
    }
