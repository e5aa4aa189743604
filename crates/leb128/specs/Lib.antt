pub mod Limits
pub mod Coding
