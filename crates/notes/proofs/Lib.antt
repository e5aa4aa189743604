-- The laws of `notes`; a module uses only those before it.
pub mod Counting
pub mod RowLoops
