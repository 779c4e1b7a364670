pub mod Unsaturated
pub mod Onward
pub mod Beginning
pub mod Counting
pub mod Entry
pub mod Checked
