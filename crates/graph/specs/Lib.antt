pub mod Graph
pub mod Target
pub mod Switch
pub mod Numbering
pub mod Tests
pub mod Theorems
