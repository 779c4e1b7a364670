pub mod Starts
pub mod Columns
pub mod Bits
pub mod Text
