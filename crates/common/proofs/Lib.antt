-- The laws of `common`; a module uses only those before it.
pub mod Tests
pub mod Cases
pub mod Functions
pub mod EachBelow
pub mod ListBelow
pub mod Loops
pub mod Pasting
pub mod Pieces
pub mod PastedParts
