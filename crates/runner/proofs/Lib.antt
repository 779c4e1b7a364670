pub mod Room
pub mod Said
pub mod Enough
pub mod Built
