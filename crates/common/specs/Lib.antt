pub mod Width
pub mod Counting
pub mod Lent
pub mod Pasting
