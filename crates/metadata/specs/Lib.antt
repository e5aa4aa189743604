pub mod Actor
pub mod Parts
pub mod Largest
pub mod Search
pub mod Inner
