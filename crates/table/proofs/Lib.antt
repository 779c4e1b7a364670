pub mod Block
pub mod Matrix
pub mod Empty
