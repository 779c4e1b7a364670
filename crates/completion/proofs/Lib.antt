pub mod Chosen
pub mod Full
pub mod Cellwise
pub mod Works
pub mod Records
pub mod Entry
pub mod Written
