pub mod Delta
pub mod Sum
pub mod All
pub mod Lowest
pub mod Fold
pub mod Blocks
pub mod Seek
