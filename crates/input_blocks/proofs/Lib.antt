pub mod Taking
pub mod Cut
pub mod Enough
pub mod Sent
