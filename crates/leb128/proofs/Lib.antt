-- The laws of `leb128`; a module uses only those before it.
pub mod ByteByByte
pub mod ReadBack
pub mod HighestBit
pub mod Laws
pub mod Wider
pub mod OneToOne
pub mod Stops
pub mod Storing
pub mod Decoding
pub mod Encoding
