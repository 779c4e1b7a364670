pub mod Mirrored
pub mod Classes
pub mod Set
pub mod Facts
pub mod Empty
pub mod Degrees
pub mod Bytes
