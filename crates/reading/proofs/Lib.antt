mod BitLaws
mod DotLaws
mod Examples
mod FirstLaws
mod FoundLaws
mod LabelLaws
pub mod Laws
mod SquareLaws
mod WidthLaws
