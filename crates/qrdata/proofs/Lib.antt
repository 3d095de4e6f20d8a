mod BestChoiceLaws
mod BoundLaws
mod ChoiceClassLaws
mod ChoiceLimitLaws
mod ChoiceOrderLaws
mod DigitsLaws
mod Examples
mod FirstsTableLaws
pub mod Laws
mod RunLaws
mod SameWidthLaws
mod SmallChoiceLaws
