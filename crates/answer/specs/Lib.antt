pub mod Refusals
pub mod Switches
pub mod Numbers
pub mod Inner
