-- The command line `labels [options] [FILE]`: which arguments it takes, and what they ask for
-- (docs/SPECIFICATION.md, Options).
-- Why: `command_line`, `invocation_of`: what `clap`'s contracts say of such a command.
use Rattle.std.specs.Prelude.{◌++◌, ℕ, Bool, true, false, List, [], ◌∷◌, Option, Some, pos, codes}
use Rattle.std.specs.Prelude.{option_map, option_and_then, unwrap_or}
use Rattle.std.specs.Option.{option_map_or}
use Rattle.std.specs.Str.{bytes_eq}
use Rattle.std.specs.Str.Parse.{digits_value, without_leading_plus}
use Rattle.clap.specs.Words.{App, Kinds, Row, Rule, Text, fault_of, first_of, matches_of, new_rule, one_of}
use Rattle.clap.specs.Simple.{new_shape}
use Rattle.clap.specs.declared.builder.action.ArgAction.TheVariants.{SetTrue}
use Rattle.clap.specs.declared.builder.value_parser.ValueParser.TheVariants as parser
use Rattle.clap.specs.declared.error.kind.ErrorKind.{ErrorKind}
use Rattle.clap.specs.declared.error.kind.ErrorKind.TheVariants as kind
use Rattle.labelcore.specs.declared.options.Format.{Format}
use Rattle.labelcore.specs.declared.options.Format.TheVariants.{Pbm, Ascii}
use Rattle.labelcore.specs.declared.level.Level.{Level}
use Rattle.labelcore.specs.Names.{listed}
use Rattle.labelcore.specs.Defaults.{default_options}
use Rattle.labelcore.specs.declared.options.Options.{Options}
use Rattle.labelcore.specs.Names.{level_named}

-- ---- the command

-- `--name TEXT`; the help text calls the value by one name
abbrev pub text_option : Text → Rule
text_option name = record (new_rule name) { long = Some name; value_names = 1 }

-- `--name NUMBER`, a whole number from low to high
abbrev pub number_option : Text → ℕ → ℕ → Rule
number_option name low high = record (text_option name) { parser = Some (parser.Signed (pos low) (pos high)) }

-- `--name`, with no value
abbrev pub switch : Text → Rule
switch name = record (new_rule name) { long = Some name; action = Some SetTrue }

-- `FILE`; the help text calls it by one name
abbrev pub file_argument : Rule
file_argument = record (new_rule (codes "file")) { value_names = 1 }

-- the options of the pictures
abbrev pub picture_options : List Rule
picture_options = text_option (codes "format")
    ∷ number_option (codes "scale") 1 8
    ∷ number_option (codes "height") 1 500
    ∷ []

-- the options of symbols and of their data
abbrev pub symbol_options : List Rule
symbol_options = text_option (codes "level")
    ∷ number_option (codes "min-version") 1 10
    ∷ number_option (codes "mask") 0 7
    ∷ switch (codes "escapes")
    ∷ []

-- the command: its arguments come without the program's name
abbrev pub command_line : App
command_line = record {
  top = record (new_shape (codes "labels")) {
    rules = picture_options ++ symbol_options ++ file_argument ∷ [];
    no_binary_name = true;
  };
  subs = [];
}

-- ---- what the matches name

-- the whole number that a text writes in decimal digits, with or without a plus before them
abbrev pub number_written : Text → ℕ
number_written text = digits_value 10 (without_leading_plus text)

-- the number that an option was given
abbrev pub number_named : Text → List Row → Option ℕ
number_named id rows = option_map number_written (one_of id rows)

-- whether a switch was given
abbrev pub is_on : Text → List Row → Bool
is_on id rows = option_map_or (λ text. bytes_eq text (codes "true")) (one_of id rows) false

-- the format of this name
abbrev pub format_of : Text → Option Format
format_of text = listed text ((codes "pbm", Pbm) ∷ (codes "ascii", Ascii) ∷ [])

-- the format given, or the default
abbrev pub format_in : List Row → Option Format
format_in rows = option_map_or format_of (first_of (codes "format") rows) (Some default_options.run.format)

-- the level given, or the default
abbrev pub level_in : List Row → Option Level
level_in rows = option_map_or level_named (first_of (codes "level") rows) (Some default_options.label.level)

-- the options given, with the defaults for the others
abbrev pub options_with : List Row → Format → Level → Options
options_with rows format level = record {
  run = record {
    format = format;
    scale = unwrap_or (number_named (codes "scale") rows) default_options.run.scale;
    escapes = is_on (codes "escapes") rows;
  };
  label = record {
    height = unwrap_or (number_named (codes "height") rows) default_options.label.height;
    level = level;
    min_version = unwrap_or (number_named (codes "min-version") rows) default_options.label.min_version;
    mask = number_named (codes "mask") rows;
  };
}

-- the options that the matches name, with the defaults for the others; none if the format or the level is not listed
abbrev pub options_named : List Row → Option Options
options_named rows = option_and_then (λ format.
    option_map (λ level. options_with rows format level) (level_in rows)) (format_in rows)

-- ---- what the arguments ask for

-- what arguments ask for: a run with these options over the named file or standard input, or the help text; or they are
-- bad, and the command does not take them
pub data Invocation : Type 0 where
  run : Options → Option Text → Invocation
  help : Invocation
  bad : Invocation

-- what arguments with a fault of this kind ask for
abbrev pub invocation_refused : ErrorKind → Invocation
invocation_refused kind.DisplayHelp = help
invocation_refused _ = bad

-- the run that the matches name, if format and level are listed
abbrev pub run_of : List Row → Invocation
run_of rows = option_map_or (λ options. run options (first_of (codes "file") rows)) (options_named rows) bad

-- what arguments ask for: their first fault decides, and without a fault what the matches name
abbrev pub invocation_by : Kinds → List Row → Invocation
invocation_by [] rows = run_of rows
invocation_by (k ∷ ks) rows = invocation_refused k

-- what the arguments ask for
abbrev pub invocation_of : List Text → Invocation
invocation_of arguments = invocation_by (fault_of command_line arguments) (matches_of command_line arguments)
