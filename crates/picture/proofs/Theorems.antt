-- Texts of pictures, their streams, their pixels and the rows of bars are read back as what was written (pbm(5), the
-- plain format). No function rests on it.
use Rattle.picture.specs.ReadingLaws.{ReadingLaws}
use Rattle.picture.proofs.Laws.AsciiLaws.{ascii_files-flat_map, ascii_pixels-ascii_text}
use Rattle.picture.proofs.Laws.CutLaws.{pbm_files-flat_map}
use Rattle.picture.proofs.Laws.PbmLaws.{pbm_pixels-pbm_text}
use Rattle.picture.proofs.Laws.SampleLaws.{value_at-raster, sample-raster, common_row-bars}

pub reading_laws : ReadingLaws
reading_laws = record {
  pbm_files = pbm_files-flat_map;
  ascii_files = ascii_files-flat_map;
  pbm_texts = pbm_pixels-pbm_text;
  ascii_texts = ascii_pixels-ascii_text;
  sampled = sample-raster;
  pixels = value_at-raster;
  one_row = common_row-bars;
}
