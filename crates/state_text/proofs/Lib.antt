pub mod Room
pub mod OneLine
pub mod Shown
