-- The laws of `traces`; a module uses only those before it.
pub mod Ways
pub mod Traces
