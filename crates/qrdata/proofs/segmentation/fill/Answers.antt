use Rattle.std.proofs.Common.{◌≡◌, ◌∙◌, ◌+◌, ◌-◌, sym, subst, ap, arith, drop, length, get_or}
use Rattle.std.proofs.lemmas.List.{drop_all, drop_more, length-drop}
use Rattle.qrdata.specs.declared.segmentation.Choices.{Choices}
use Rattle.qrdata.specs.Private.Table.{AreSmall, choices_of, next_choices}
use Rattle.qrdata.proofs.RunLaws.{named_more}
use Rattle.qrdata.proofs.SmallChoiceLaws.{AreSmall-of}
use Rattle.qrdata.proofs.segmentation.fill.Goals as goal

pub loop-place-init : goal.loop-place-init
unfolding choices_of
loop-place-init c = rw (drop_all (length c.args.bytes.now) c.args.bytes.now (omega arith))
    (omega arith, λ k from inside. absurd (omega arith), c.without_bytes-choices.ensures)

pub of_all_modes-choices-requires-clause-rest : goal.of_all_modes-choices-requires-clause-rest
of_all_modes-choices-requires-clause-rest c = subst AreSmall (sym c.loop-place.invariant.2) (AreSmall-of c.args.version
    (drop c.loop-place.place c.args.bytes.now) (omega (arith, length-drop c.loop-place.place c.args.bytes.now)))

pub loop-place-preserved-then-value_of-lt45 : goal.loop-place-preserved-then-value_of-lt45
unfolding choices_of
loop-place-preserved-then-value_of-lt45 c =
    let bytes = c.args.bytes.now in
    let place = c.loop-place.place - 1 in
    let next : place + 1 ≡ c.loop-place.place = omega (arith, c.loop-place-test.true) in
    let rest = rw next at (drop_more bytes place 0 (omega (arith, c.loop-place.invariant.0))) in
    let here = c.of_all_modes-choices.ensures
    ∙ ap (next_choices c.args.version (get_or bytes place 0)) c.loop-place.invariant.2
    ∙ ap (choices_of c.args.version) (sym rest) in
    let segment = c.code.ensures ∙ ap (λ (choices : Choices). choices.best.segment) here in
    (omega arith, named_more c.args.version bytes place _ _ _ (rw next c.loop-place.invariant.1) c.put.ensures segment, here)
