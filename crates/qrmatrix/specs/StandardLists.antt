-- What ISO/IEC 18004 lists of symbols, beside what the definitions compute.
use Rattle.qrmatrix.specs.Information.{FormatInformationIsListed, FormatInformationIsMultiple}
use Rattle.qrmatrix.specs.Information.{VersionInformationIsListed, VersionInformationIsMultiple}
use Rattle.qrmatrix.specs.Information.{FormatWordsAreFarApart, VersionWordsAreFarApart}
use Rattle.qrmatrix.specs.Placement.{CodewordsFillFreeModules}

-- the format information (Annex C), the version information (Annex D) and the remainder bits (Table 1) are those
-- listed, and the words of each differ in as many bits as the standard says
pub record AgreesWithLists : Type 0 where
  pub format : FormatInformationIsListed
  pub format_code : FormatInformationIsMultiple
  pub version : VersionInformationIsListed
  pub version_code : VersionInformationIsMultiple
  pub format_words : FormatWordsAreFarApart
  pub version_words : VersionWordsAreFarApart
  pub room : CodewordsFillFreeModules
