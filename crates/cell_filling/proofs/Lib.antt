pub mod Passed
pub mod Search
pub mod OneJoin
pub mod Joins
