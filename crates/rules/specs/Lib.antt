pub mod Inner
pub mod Parts
