pub mod Add
pub mod Unlinked
