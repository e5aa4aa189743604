-- The laws of `cleaning`; a module uses only those before it.
pub mod Sweeping
pub mod Answers
