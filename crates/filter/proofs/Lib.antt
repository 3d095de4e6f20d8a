mod DamageExamples
mod Examples
pub mod Laws
pub mod Theorems
