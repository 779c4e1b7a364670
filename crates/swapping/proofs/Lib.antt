pub mod Rule
pub mod Kept
pub mod Bytes
