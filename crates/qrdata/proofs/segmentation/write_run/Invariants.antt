use Rattle.std.proofs.Common.{◌≡◌, ◌≤◌, drop}
use Rattle.qrdata.specs.Private.Table.{NamesFirsts, byte_choices, choices_of}
use Rattle.qrdata.proofs.segmentation.write_run.Given as goal

-- the table is filled from here on, and these are the choices of the bytes from here on
abbrev pub invariant-loop-place : goal.invariant-loop-place
invariant-loop-place l = (l.place ≤ l.last)
    × NamesFirsts l.fn.version l.bytes l.place l.firsts
    × (byte_choices l.first ≡ choices_of l.fn.version (drop l.place l.bytes))

abbrev pub decreases-loop-place : goal.decreases-loop-place
decreases-loop-place l = l.place
