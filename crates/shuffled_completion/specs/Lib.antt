pub mod Choice
pub mod Shuffle
pub mod Outcome
