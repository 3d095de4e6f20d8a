pub mod AloneLaws
pub mod CellLaws
pub mod ScaleLaws
