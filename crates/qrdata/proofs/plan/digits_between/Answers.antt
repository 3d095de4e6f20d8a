use Rattle.std.proofs.Common.{ℕ, arith, refl, sym}
use Rattle.qrdata.proofs.DigitsLaws.{chosen_of_digits, digits_bits}
use Rattle.qrdata.proofs.plan.digits_between.Goals as goal

pub plan_of_digits-requires : goal.plan_of_digits-requires
plan_of_digits-requires c =
    let room = c.in-Some.ensures.some in
    let same = c.requires.same c.in-Some.version room.from room.to in
    omega (arith, digits_bits c.in-Some.version c.args.highest c.args.len same)

pub returns-in-Some-clause-some : goal.returns-in-Some-clause-some
returns-in-Some-clause-some c = λ bytes are.
    let room = c.in-Some.ensures.some in
    let len = c.args.len in
    let same = c.requires.same c.in-Some.version room.from room.to in
    let chosen = λ (v : ℕ). chosen_of_digits v len bytes are c.requires.some.0 c.requires.some.1 in
    rw c.plan_of_digits.ensures (record {
      from = room.from;
      to = room.to;
      same_level = refl;
      same_segments = sym (chosen c.in-Some.version);
      fits = rw (chosen c.in-Some.version)
          (omega (arith, room.fits, digits_bits c.in-Some.version c.args.highest len same));
      smallest = λ v from below. rw (chosen v) (omega (
        arith,
        room.smallest v from below,
        digits_bits v c.args.highest len (c.requires.same v from (omega (arith, below, room.to))),
      ));
    })

pub returns-in-None-clause-none : goal.returns-in-None-clause-none
returns-in-None-clause-none c = λ bytes are v from to.
    rw (chosen_of_digits v c.args.len bytes are c.requires.some.0 c.requires.some.1) (omega (
      arith,
      c.in-None.ensures.none v from (omega (arith, to)),
      digits_bits v c.args.highest c.args.len (c.requires.same v from to),
    ))
