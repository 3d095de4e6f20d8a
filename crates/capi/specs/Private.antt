-- Lemmas that the laws of a sink cite: nothing here has to be believed.
pub mod Puts
pub mod BitRows
pub mod Asking
