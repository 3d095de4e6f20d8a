mod DamageExamples
mod EncodingLaws
mod Examples
pub mod Laws
pub mod Theorems
