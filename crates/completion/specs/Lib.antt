pub mod Choice
pub mod Complete
pub mod Inner
