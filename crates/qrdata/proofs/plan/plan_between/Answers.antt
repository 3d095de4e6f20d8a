use Rattle.std.proofs.Common.{arith, refl}
use Rattle.qrdata.specs.Fewest.{chosen_segments}
use Rattle.qrdata.proofs.BoundLaws.{third}
use Rattle.qrdata.proofs.Laws.FewestBitsLaws.{chosen_segments-is}
use Rattle.qrdata.proofs.FirstsTableLaws.{FitsBits-of, NamesBest-of, capacity_as_wide, fewest_bits-below}
use Rattle.qrdata.proofs.Laws.VersionLaws.{capacity-le, capacity-rising}
use Rattle.qrdata.proofs.plan.plan_between.Goals as goal

pub returns-then-bytes-capacity-clause-none : goal.returns-then-bytes-capacity-clause-none
returns-then-bytes-capacity-clause-none c = λ v from to.
    let segments = chosen_segments v c.args.bytes.now in
    omega (
      arith,
      c.if-bytes-capacity.true,
      c.capacity.ensures.value,
      third v segments c.args.bytes.now (chosen_segments-is v c.args.bytes.now),
      capacity-rising c.args.level v c.args.highest to c.prove_range.ensures.1,
    )

pub overflow_cast-bits : goal.overflow_cast-bits
overflow_cast-bits c =
    let room = c.in-Some.ensures.some in
    omega (arith, room.fits, capacity-le c.args.level c.in-Some.version room.known)

pub plan_of-requires-clause-table : goal.plan_of-requires-clause-table
plan_of-requires-clause-table c =
    let room = c.in-Some.ensures.some in
    let same = c.requires.same c.in-Some.version room.from room.to in
    let firsts = c.fill-bits.ensures.firsts in
    let wide = capacity_as_wide c.in-Some.version c.args.highest c.args.level same room.known.0 room.known.1 in
    record {
      few = omega arith;
      named = NamesBest-of c.in-Some.version c.args.highest same c.args.bytes.now c.fill-bits.result
          c.fill-bits.new.firsts (omega arith) (omega (arith, room.fits, wide)) firsts;
    }

pub plan_of-requires-clause-bits : goal.plan_of-requires-clause-bits
plan_of-requires-clause-bits c =
    let room = c.in-Some.ensures.some in
    FitsBits-of c.in-Some.version c.args.highest c.args.level c.fill-bits.result
    (c.requires.same c.in-Some.version room.from room.to) room.known c.args.bytes.now (omega arith)
    c.fill-bits.ensures.bits room.fits

pub returns-in-Some-clause-some : goal.returns-in-Some-clause-some
returns-in-Some-clause-some c =
    let room = c.in-Some.ensures.some in
    let fewest = c.fill-bits.ensures.bits in
    let bits = FitsBits-of c.in-Some.version c.args.highest c.args.level c.fill-bits.result
    (c.requires.same c.in-Some.version room.from room.to) room.known c.args.bytes.now (omega arith) fewest
    room.fits in
    rw c.plan_of.ensures (record {
      from = room.from;
      to = room.to;
      same_level = refl;
      same_segments = refl;
      fits = omega (arith, bits.value, bits.fits);
      smallest = λ u from below. omega (
        arith,
        fewest,
        room.smallest u from below,
        fewest_bits-below u c.args.highest (c.requires.same u from (omega (arith, below, room.to))) c.args.bytes.now,
      );
    })

pub returns-in-None-clause-none : goal.returns-in-None-clause-none
returns-in-None-clause-none c = λ v from to. omega (
  arith,
  c.fill-bits.ensures.bits,
  c.in-None.ensures.none v from (omega (arith, to)),
  fewest_bits-below v c.args.highest (c.requires.same v from to) c.args.bytes.now,
)
