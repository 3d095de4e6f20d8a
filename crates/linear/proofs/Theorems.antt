-- What the standards promise of their tables, and the switching rule of Code 128, step by step (ISO/IEC 15420 and
-- 15417, symbol characters and code sets). No function rests on it.
use Rattle.linear.specs.CodingLaws.{CodingLaws}
use Rattle.linear.proofs.Laws.CharacterLaws.{character_modules-differs, length-character_modules, length-stop}
use Rattle.linear.proofs.Laws.CheckValueLaws.{wrong_values_are_seen, neighbours_are_seen}
use Rattle.linear.proofs.Laws.CheckDigitLaws.{wrong_digits_are_seen, exchanges_are_seen}
use Rattle.linear.proofs.Laws.CharacterLaws.{count_by-character_modules}
use Rattle.linear.proofs.Laws.PatternTableLaws.{pattern-differs}
use Rattle.linear.proofs.Laws.SwitchingLaws.{values_are_written_by_steps}

pub coding_laws : CodingLaws
coding_laws = record {
  patterns_differ = pattern-differs;
  characters_differ = character_modules-differs;
  characters_have_eleven_modules = length-character_modules;
  bars_are_even = count_by-character_modules;
  stop_has_thirteen_modules = length-stop;
  values_are_written_by_steps = values_are_written_by_steps;
  wrong_digits_are_seen = wrong_digits_are_seen;
  exchanges_are_seen = exchanges_are_seen;
  wrong_values_are_seen = wrong_values_are_seen;
  neighbours_are_seen = neighbours_are_seen;
}
