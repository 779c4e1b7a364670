pub mod Add
pub mod Inner
