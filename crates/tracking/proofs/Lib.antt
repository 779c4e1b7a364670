pub mod Cells
pub mod Following
pub mod Begun
