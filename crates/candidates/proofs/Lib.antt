-- The laws of `candidates`; a module uses only those before it.
pub mod ListLoop
