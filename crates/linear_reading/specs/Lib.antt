pub mod Reading
pub mod Private
