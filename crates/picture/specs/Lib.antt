pub mod Picture
pub mod Private
pub mod Reading
pub mod ReadingLaws
pub mod Text
