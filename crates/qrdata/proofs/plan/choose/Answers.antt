use Rattle.qrdata.specs.Segments.{IsSegmentation}
use Rattle.qrdata.proofs.Laws.FewestBitsLaws.{chosen_segments-is, chosen_segments-le_cost}
use Rattle.qrdata.proofs.Laws.LengthLaws.{length-segments_bits}
use Rattle.qrdata.proofs.Laws.VersionSearchLaws.{NoneFits-from_chosen, chosen_version-is, chosen_version-none}
use Rattle.qrdata.proofs.plan.choose.Goals as goal

pub returns-in-Some-clause-plan : goal.returns-in-Some-clause-plan
returns-in-Some-clause-plan c =
    let label = c.args.options.now.label in
    let level = label.level in
    let bytes = c.args.«data».now in
    let plan = c.in-Some.plan in
    let h = rw (c.of-lowest.ensures, c.min_version.ensures.value, c.level-level.ensures) at c.in-Some.ensures.some in
    let cut : IsSegmentation plan.version plan.segments bytes =
    rw h.same_segments (chosen_segments-is plan.version bytes) in
    record {
      version = chosen_version-is label.min_version level bytes plan.version h.from h.to h.fits h.smallest;
      same_level = h.same_level;
      segments = h.same_segments;
      cut = cut;
      fits = rw (h.same_segments, h.same_level) h.fits;
      bits = length-segments_bits plan.version plan.segments bytes cut;
      fewest = rw h.same_segments (chosen_segments-le_cost plan.version bytes);
      smallest = λ v from less. NoneFits-from_chosen v level bytes (h.smallest v from less);
    }

pub returns-in-None-clause-refused : goal.returns-in-None-clause-refused
returns-in-None-clause-refused c =
    let label = c.args.options.now.label in
    let bytes = c.args.«data».now in
    let none = rw (c.of-lowest.ensures, c.min_version.ensures.value, c.level-level.ensures) at c.in-None.ensures.none in
    record {
      version = chosen_version-none label.min_version label.level bytes none;
      nowhere = λ v from to. NoneFits-from_chosen v label.level bytes (none v from to);
    }
