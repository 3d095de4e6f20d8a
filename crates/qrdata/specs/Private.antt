-- Definitions that only contracts inside this crate cite, and those of what `qr_reading` takes from it: nothing here has
-- to be believed.
pub mod BitsInCodewords
pub mod Blocks
pub mod ChoiceView
pub mod Firsts
pub mod SmallestPlan
pub mod Table
