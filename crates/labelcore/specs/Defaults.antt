-- The options that hold where none is given (docs/SPECIFICATION.md, Options).
use Rattle.std.specs.Prelude.{None, false}
use Rattle.labelcore.specs.declared.options.Options.{Options}
use Rattle.labelcore.specs.declared.options.Format.TheVariants.{Pbm}
use Rattle.labelcore.specs.declared.level.Level.TheVariants.{M}

-- plain PBM, one pixel a module, 50 modules high, level M, any version, the mask with the lowest penalty, no escapes
abbrev pub default_options : Options
default_options = record {
  run = record { format = Pbm; scale = 1; escapes = false };
  label = record { height = 50; level = M; min_version = 1; mask = None };
}
