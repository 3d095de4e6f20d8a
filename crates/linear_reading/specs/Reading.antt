-- What reading promises of any row (ISO/IEC 15420 and 15417).
use Rattle.std.specs.Prelude.{ℕ, Bool, ◌&&◌, List, Option, None, if◌then◌else◌, length, nat_le}
use Rattle.linear.specs.declared.limits.TheConstants.{MAX_MODULES, MIN_MODULES}

-- What a row is read as by a rule. One that is longer or shorter than any symbol that is drawn is not read: a Code 128 has
-- one character for data at least between its start and its check character.
abbrev pub read_row : (List Bool → Option (List ℕ)) → List Bool → Option (List ℕ)
read_row reading row = if nat_le MIN_MODULES (length row) && nat_le (length row) MAX_MODULES then reading row else None
