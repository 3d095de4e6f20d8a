-- What the definitions of a run say together (docs/SPECIFICATION.md, The filter as a library). No function rests on it.
use Rattle.labelcore.specs.declared.options.Options.{Options}
use Rattle.filter.specs.Resume.{ResumingLaws}
use Rattle.filter.proofs.Laws.ResumeLaws.{Resumes-done, script-cut, script_after-images}

-- a text can be drawn in parts, and a run that stopped can go on
pub resuming_laws : (options : Options) → ResumingLaws options
resuming_laws options = record {
  cut = script-cut options;
  images = script_after-images options;
  resumed = Resumes-done options;
}
