pub mod Survey
pub mod Theorem
