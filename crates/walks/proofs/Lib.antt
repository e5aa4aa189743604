-- The laws of `walks`; a module uses only those before it.
pub mod Walks
pub mod PlainValues
pub mod Locals
pub mod Statements
pub mod WhileLess
pub mod Theorem
pub mod Calling
pub mod Lending
pub mod Elements
pub mod LentLocals
