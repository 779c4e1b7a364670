pub mod Counted
pub mod Overfull
pub mod Verdict
