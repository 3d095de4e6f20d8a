-- Definitions that only the contracts of private functions cite: nothing here has to be believed.
pub mod Rows
