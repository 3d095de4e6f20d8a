pub mod Bits
pub mod Codewords
pub mod Fewest
pub mod PlanView
pub mod Private
pub mod Reading
pub mod Segments
pub mod Versions
