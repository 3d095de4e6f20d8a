pub mod FailAt
pub mod Memory
