-- The laws of `metadata`; a module uses only those before it.
pub mod Largest
pub mod Parts
pub mod SearchLaws
pub mod Looking
pub mod Zeros
