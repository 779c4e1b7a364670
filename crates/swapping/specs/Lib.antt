pub mod Swap
pub mod Theorems
