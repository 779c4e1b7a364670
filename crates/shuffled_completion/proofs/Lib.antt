pub mod Picked
pub mod Works
pub mod Answers
