-- The definitions compute what ISO/IEC 18004 lists: the format information of all levels and masks (Annex C), the
-- version information of versions 7 to 10 (Annex D), and the remainder bits (Table 1). No function rests on it.
use Rattle.qrmatrix.specs.StandardLists.{AgreesWithLists}
use Rattle.qrmatrix.proofs.Laws.InformationLaws.{format_information-listed, format_information-multiple}
use Rattle.qrmatrix.proofs.Laws.InformationLaws.{version_information-listed, version_information-multiple}
use Rattle.qrmatrix.proofs.Laws.WordDistanceLaws.{format_words-far_apart, version_words-far_apart}
use Rattle.qrmatrix.proofs.Laws.VersionLaws.{counted}

pub symbol_laws : AgreesWithLists
symbol_laws = record {
  format = format_information-listed;
  format_code = format_information-multiple;
  version = version_information-listed;
  version_code = version_information-multiple;
  format_words = format_words-far_apart;
  version_words = version_words-far_apart;
  room = counted;
}
