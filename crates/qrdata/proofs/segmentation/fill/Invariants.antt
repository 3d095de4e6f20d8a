use Rattle.std.proofs.Common.{◌≡◌, ◌≤◌, drop, length}
use Rattle.qrdata.specs.Private.Table.{NamesFirsts, choices_of}
use Rattle.qrdata.proofs.segmentation.fill.Given as goal

-- the table is filled from here on, and these are the choices of the bytes from here on
abbrev pub invariant-loop-place : goal.invariant-loop-place
invariant-loop-place l = (l.place ≤ length l.bytes)
    × NamesFirsts l.version l.bytes l.place l.firsts
    × (l.choices ≡ choices_of l.version (drop l.place l.bytes))

abbrev pub decreases-loop-place : goal.decreases-loop-place
decreases-loop-place l = l.place
