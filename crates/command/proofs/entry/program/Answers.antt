use Rattle.std.proofs.Common.{map, refl, sym}
use Rattle.std.specs.Prelude.{string_bytes}
use Rattle.command.specs.CommandLine.{invocation_of}
use Rattle.command.proofs.ProgramLaws.{EndsShown-from}
use Rattle.command.proofs.entry.program.Goals as goal
use Rattle.command.proofs.entry.program.Goals.{in-Ok, in-Err}

pub returns : goal.returns
returns g c =
    record {
      runs = record {
        end = c.match-arguments.end;
        told = c.match-arguments.errors;
        ends_so = elim c.match-arguments.branch [
          | in-Ok w ↦ rw (w.in-Ok.is, w.end-is, w.files-is, w.input-is, w.output-is, w.errors-is, sym w.as_slice.ensures.value) w.end_of-end.ensures
          | in-Err w ↦ rw w.in-Err.is (w.end-is, rw (w.files-is, w.input-is, w.output-is, w.errors-is) refl)
        ];
        written = c.write_whole.result;
        line = rw (sym c.line.ensures, sym c.as_bytes.ensures.value) c.write_whole.ensures;
        status_is = c.status.ensures;
      };
      shows = record {
        end = c.match-arguments.end;
        told = c.match-arguments.errors;
        ends_so = elim c.match-arguments.branch [
          | in-Ok w ↦ rw (w.in-Ok.is, w.end-is, w.files-is, w.input-is, w.output-is, w.errors-is, sym w.as_slice.ensures.value)
              (EndsShown-from _ _ _ _ (invocation_of (map string_bytes w.as_slice.result.now)) w.end_of-end.ensures)
          | in-Err w ↦ rw w.in-Err.is (w.end-is, rw (w.files-is, w.input-is, w.output-is, w.errors-is) refl)
        ];
        written = c.write_whole.result;
        line = rw (sym c.line.ensures, sym c.as_bytes.ensures.value) c.write_whole.ensures;
        status_is = c.status.ensures;
      };
    }
