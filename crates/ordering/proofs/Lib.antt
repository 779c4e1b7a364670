pub mod Cases
pub mod Drawings
