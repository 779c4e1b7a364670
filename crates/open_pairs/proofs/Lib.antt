pub mod Columns
pub mod Marked
pub mod Sums
pub mod Refreshed
