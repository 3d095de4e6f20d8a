-- How the program ends: its status, and its line on standard error (docs/SPECIFICATION.md, Statuses).
-- Why: `exit_status`, `line_of`: SPECIFICATION, Statuses.
use Rattle.std.specs.Prelude.{ℕ, List, [], ◌∷◌, ◌++◌, Ok, Err, codes}
use Rattle.command.specs.declared.end.End.{End}
use Rattle.command.specs.declared.end.End.TheVariants.{Ran, Helped, BadWords, NoFile, NoMemory}
use Rattle.filter.specs.declared.status.RunFault.TheVariants.{Read}
use Rattle.filter.specs.declared.status.Status.TheVariants.{Clean, Refused}

-- the status: 0 for a clean run or help, 1 for a run with refused lines, 2 for bad arguments, 3 for what failed
abbrev pub exit_status : End → ℕ
exit_status (Ran (Ok Clean)) = 0
exit_status (Ran (Ok Refused)) = 1
exit_status Helped = 0
exit_status BadWords = 2
exit_status other = 3

-- a line on standard error that the program itself writes; 10 is the line feed
abbrev pub program_line : List ℕ → List ℕ
program_line text = codes "labels: " ++ text ++ 10 ∷ []

-- the line for standard error, or nothing
abbrev pub line_of : End → List ℕ
line_of (Ran (Err Read)) = program_line (codes "read failed")
line_of (Ran (Err other)) = program_line (codes "write failed")
line_of BadWords = program_line (codes "bad words")
line_of NoFile = program_line (codes "cannot open file")
line_of NoMemory = program_line (codes "no memory")
line_of other = []
