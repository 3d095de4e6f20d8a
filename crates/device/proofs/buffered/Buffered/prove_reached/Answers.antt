use Rattle.device.proofs.PassingLaws.{PassesOn-all, slice_range-none}
use Rattle.device.proofs.buffered.Buffered.prove_reached.Goals as goal

pub returns-clause-buffered : goal.returns-clause-buffered
returns-clause-buffered g c =
    λ e. let s = c.args.self.now in slice_range-none s.bytes s.start s.end (s.emptied e)

pub returns-clause-bytes : goal.returns-clause-bytes
returns-clause-bytes g c =
    λ e old held text h. let s = c.args.self.now in
    PassesOn-all g.S.Sink.took old s.sink held _ text (slice_range-none s.bytes s.start s.end (s.emptied e)) h
