mod Examples
pub mod Laws
mod LengthLaws
mod LetterLaws
mod RepeatedLaws
pub mod Theorems
mod WritingLoopLaws
