pub mod List
pub mod Pairs
pub mod Listing
pub mod Listed
pub mod Unique
pub mod Chunks
