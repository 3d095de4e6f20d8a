pub mod Negative
