pub mod Dots
pub mod Labels
pub mod Found
pub mod Private
