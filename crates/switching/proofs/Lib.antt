pub mod Degrees
pub mod Substitute
pub mod Transfer
pub mod Steps
