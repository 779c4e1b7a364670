pub mod Write
pub mod Inner
