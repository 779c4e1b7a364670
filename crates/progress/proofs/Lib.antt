pub mod ValidRuns
pub mod Output
pub mod Whole
pub mod Searched
pub mod Saturated
pub mod Checked
