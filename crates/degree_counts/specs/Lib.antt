pub mod Above
pub mod Inner
