pub mod Record
pub mod Inner
