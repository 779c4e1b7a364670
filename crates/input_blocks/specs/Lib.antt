pub mod Blocks
pub mod Taken
