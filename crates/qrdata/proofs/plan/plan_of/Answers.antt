use Rattle.std.proofs.Common.{◌≡◌, ◌≤◌, ◌++◌, ℕ, List, drop, length, append_assoc, append-nil, arith, refl}
use Rattle.std.proofs.lemmas.List.{drop_all}
use Rattle.qrdata.specs.declared.mode.Segment.{Segment}
use Rattle.qrdata.specs.Fewest.{chosen_segments}
use Rattle.qrdata.proofs.Laws.FewestBitsLaws.{chosen_segments-nil}
use Rattle.qrdata.proofs.FirstsTableLaws.{IsNamed-first}
use Rattle.qrdata.proofs.plan.plan_of.Goals as goal

pub loop-place-smaller : goal.loop-place-smaller
loop-place-smaller c =
    let named = IsNamed-first c.loop-place-test.true c.requires.table c.loop-place.invariant.2 c.at-first.ensures in
    omega (arith, named.some, named.inside, c.from-place.ensures)

pub loop-place-preserved : goal.loop-place-preserved
loop-place-preserved c =
    let named = IsNamed-first c.loop-place-test.true c.requires.table c.loop-place.invariant.2 c.at-first.ensures in (
      rw (c.push.ensures.items, c.from-place.ensures, append_assoc) (rw named.next at c.loop-place.invariant.0),
      omega (arith, named.inside, c.from-place.ensures),
      rw c.from-place.ensures named.small,
    )

whole : (version : ℕ) (bytes : List ℕ) (place : ℕ) (segments : List Segment)
    → segments ++ chosen_segments version (drop place bytes) ≡ chosen_segments version bytes → length bytes ≤ place
    → segments ≡ chosen_segments version bytes
whole version bytes place segments e past = rw (drop_all place bytes past, chosen_segments-nil version, append-nil) at e

pub invariant_of-result : goal.invariant_of-result
invariant_of-result c =
    rw (whole c.args.version c.args.bytes.now c.loop-place.place c.loop-place.segments.items c.loop-place.invariant.0
    c.loop-place-test.false) c.requires.bits.value

pub returns : goal.returns
returns c =
    rw (whole c.args.version c.args.bytes.now c.loop-place.place c.loop-place.segments.items c.loop-place.invariant.0
    c.loop-place-test.false) refl
