pub mod Cases
pub mod Texts
pub mod Swaps
