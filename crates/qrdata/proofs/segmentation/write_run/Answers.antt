use Rattle.std.proofs.Common.{◌≡◌, ◌∙◌, ◌+◌, ◌-◌, sym, subst, ap, arith, drop}
use Rattle.std.proofs.lemmas.List.{length-drop}
use Rattle.qrdata.specs.declared.segmentation.Choices.{Choices}
use Rattle.qrdata.specs.Private.Table.{AreSmall, IsSmall, byte_choices}
use Rattle.qrdata.proofs.RunLaws.{named_more, run_first, run_more}
use Rattle.qrdata.proofs.SmallChoiceLaws.{AreSmall-of}
use Rattle.qrdata.proofs.segmentation.write_run.Goals as goal

pub with_byte-first-requires : goal.with_byte-first-requires
with_byte-first-requires c = subst AreSmall (sym c.requires.rest) (AreSmall-of c.args.version
    (drop (c.args.last + 1) c.args.bytes.now) (omega (arith, length-drop (c.args.last + 1) c.args.bytes.now)))

pub loop-place-init : goal.loop-place-init
loop-place-init c =
    let bytes = c.args.bytes.now in
    let here = ap byte_choices c.with_byte-first.ensures
    ∙ run_first c.args.version bytes c.args.last c.args.rest.now c.requires.few c.requires.inside
    (omega (arith, c.type_inv.bytes c.args.last)) c.requires.byte c.requires.rest in
    let segment = c.code.ensures ∙ ap (λ (choices : Choices). choices.best.segment) here in
    (omega arith, named_more c.args.version bytes c.args.last _ _ _ c.requires.firsts c.put.ensures segment, here)

pub longer-first-requires-clause-choice : goal.longer-first-requires-clause-choice
longer-first-requires-clause-choice c = subst (λ (choices : Choices). IsSmall choices.bytes)
    (sym c.loop-place.invariant.2) (AreSmall-of c.args.version
    (drop c.loop-place.place c.args.bytes.now) (omega (arith, length-drop c.loop-place.place c.args.bytes.now))).2

pub loop-place-preserved : goal.loop-place-preserved
loop-place-preserved c =
    let bytes = c.args.bytes.now in
    let place = c.loop-place.place - 1 in
    let next : place + 1 ≡ c.loop-place.place = omega (arith, c.loop-place-test.true) in
    let here = ap byte_choices c.longer-first.ensures
    ∙ run_more c.args.version bytes place c.loop-place.first c.requires.few (omega arith)
    (omega (arith, c.type_inv.bytes place)) (omega (arith, c.value_of.ensures.value, c.if-value_of-ge45.true))
    (rw next c.loop-place.invariant.2) in
    let segment = c.code-in-loop-place.ensures ∙ ap (λ (choices : Choices). choices.best.segment) here in
    (omega arith, named_more c.args.version bytes place _ _ _ (rw next c.loop-place.invariant.1) c.put-in-loop-place.ensures segment, here)
