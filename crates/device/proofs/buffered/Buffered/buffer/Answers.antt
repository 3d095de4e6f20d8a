use Rattle.std.proofs.Common.{◌+◌, length, refl, ◌∙◌, ap, arith, List, ℕ}
use Rattle.std.specs.Prelude.{slice_range}
use Rattle.device.proofs.PassingLaws.{buffered_more}
use Rattle.device.proofs.buffered.Buffered.buffer.Goals as goal

pub returns-clause-buffered : goal.returns-clause-buffered
returns-clause-buffered g c =
    let s = c.args.self.now in
    let more = c.args.bytes.now in
    ap (λ (xs : List ℕ). slice_range xs s.start (s.end + length more)) c.put.ensures
    ∙ buffered_more s.bytes more s.start s.end (length more) s.ordered (omega arith) refl
