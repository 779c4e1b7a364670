pub mod Remove
pub mod Inner
