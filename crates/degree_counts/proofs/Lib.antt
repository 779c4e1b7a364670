pub mod Degrees
pub mod Zeros
