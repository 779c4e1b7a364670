pub mod Gathering
pub mod Bodies
