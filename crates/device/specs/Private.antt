-- Lemmas that the laws of devices cite: nothing here has to be believed.
pub mod Joined
pub mod Passed
