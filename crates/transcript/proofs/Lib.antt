-- The laws of `transcript`; a module uses only those before it.
pub mod Decimal
pub mod Lines
pub mod Sizes
pub mod Chunks
pub mod Putting
pub mod Printed
pub mod LogRun
pub mod TextOfSteps
