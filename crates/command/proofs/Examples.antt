-- Worked command lines, computed from the definition.
use Rattle.std.proofs.Common.{◌≡◌, refl, codes, [], ◌∷◌, map, Some, None, Ok, Err, true, false}
use Rattle.clap.proofs.OnLiterals.{clap_on_literals}
use Rattle.command.specs.CommandLine.{bad, command_line, file_argument, help, invocation_of, is_on, run, text_option}
use Rattle.command.specs.declared.end.End.TheVariants.{Ran, Helped, BadWords, NoFile, NoMemory}
use Rattle.command.specs.End.{exit_status, line_of}
use Rattle.filter.specs.declared.status.RunFault.TheVariants.{Read, WriteOut, WriteMessages}
use Rattle.filter.specs.declared.status.Status.TheVariants.{Clean, Refused}
use Rattle.labelcore.specs.declared.options.Format.TheVariants.{Pbm, Ascii}
use Rattle.labelcore.specs.declared.level.Level.TheVariants.{M, H}
use Rattle.labelcore.specs.declared.options.Options.{Options}
use Rattle.labelcore.specs.Names.{level_named}
use Rattle.labelcore.specs.OptionValues.{LabelValues}

bad-words : (invocation_of (codes "--scale" ∷ codes "9" ∷ []) ≡ bad)
    × (invocation_of (codes "--level" ∷ codes "l" ∷ []) ≡ bad)
    × (invocation_of (codes "--level" ∷ codes "Q" ∷ codes "--level" ∷ codes "M" ∷ []) ≡ bad)
    × (invocation_of (codes "--height" ∷ []) ≡ bad)
    × (invocation_of (codes "a" ∷ codes "b" ∷ []) ≡ bad)
    × (invocation_of (codes "--format" ∷ codes "x" ∷ codes "-h" ∷ []) ≡ help)
unfolding clap_on_literals level_named
bad-words = (refl, refl, refl, refl, refl, refl)

full : Options
full = record {
  run = record { format = Ascii; scale = 8; escapes = true };
  label = record { height = 500; level = H; min_version = 10; mask = Some 0 };
}

all-named : invocation_of (codes "--format" ∷ codes "ascii" ∷ codes "--scale=8" ∷ codes "--height" ∷ codes "500"
    ∷ codes "--level" ∷ codes "H" ∷ codes "--min-version" ∷ codes "10"
    ∷ codes "--mask" ∷ codes "0" ∷ codes "--escapes" ∷ codes "-" ∷ []) ≡ run full (Some (codes "-"))
unfolding clap_on_literals level_named full
all-named = refl

-- the defaults, and each number at the low end of its range (docs/SPECIFICATION.md, Options)
label : LabelValues
label = record { height = 50; level = M; min_version = 1; mask = None }

plain : Options
plain = record { run = record { format = Pbm; scale = 1; escapes = false }; label = label }

no-words : invocation_of [] ≡ run plain None
unfolding clap_on_literals level_named plain label
no-words = refl

lowest : invocation_of (codes "--scale=1" ∷ codes "--height=1" ∷ codes "--min-version=1" ∷ codes "--mask=7"
    ∷ codes "--format=pbm" ∷ codes "label.txt" ∷ []) ≡
    run (record plain { label = record label { height = 1; mask = Some 7 } }) (Some (codes "label.txt"))
unfolding clap_on_literals level_named plain label
lowest = refl

-- beside the ranges
out-of-range : map invocation_of ((codes "--scale=0" ∷ []) ∷ (codes "--height=0" ∷ []) ∷ (codes "--height=501" ∷ [])
    ∷ (codes "--min-version=0" ∷ []) ∷ (codes "--min-version=11" ∷ []) ∷ (codes "--mask=8" ∷ []) ∷ []) ≡
    bad ∷ bad ∷ bad ∷ bad ∷ bad ∷ bad ∷ []
unfolding clap_on_literals level_named
out-of-range = refl

-- the statuses and the lines of the program's ends (docs/SPECIFICATION.md, Statuses)
statuses : map exit_status (Ran (Ok Clean) ∷ Ran (Ok Refused) ∷ Helped ∷ BadWords ∷ NoFile ∷ NoMemory
    ∷ Ran (Err Read) ∷ Ran (Err WriteOut) ∷ Ran (Err WriteMessages) ∷ []) ≡ 0 ∷ 1 ∷ 0 ∷ 2 ∷ 3 ∷ 3 ∷ 3 ∷ 3 ∷ 3 ∷ []
statuses = refl

end-lines : map line_of (Ran (Ok Clean) ∷ Ran (Ok Refused) ∷ Helped ∷ BadWords ∷ NoFile ∷ NoMemory ∷ Ran (Err Read)
    ∷ Ran (Err WriteOut) ∷ Ran (Err WriteMessages) ∷ []) ≡ [] ∷ [] ∷ [] ∷ codes "labels: bad words\n"
    ∷ codes "labels: cannot open file\n" ∷ codes "labels: no memory\n" ∷ codes "labels: read failed\n"
    ∷ codes "labels: write failed\n" ∷ codes "labels: write failed\n" ∷ []
end-lines = refl

-- the command's name, one name for each value in the help text, and no switch where none is given
parts-of-the-command : (command_line.top.name ≡ codes "labels") × ((text_option (codes "scale")).value_names ≡ 1)
    × (file_argument.value_names ≡ 1) × (is_on (codes "escapes") [] ≡ false)
parts-of-the-command = (refl, refl, refl, refl)
