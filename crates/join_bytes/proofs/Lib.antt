pub mod Bytes
pub mod Alone
pub mod Joinable
pub mod Untouched
pub mod Switches
