pub mod Range
pub mod Inner
