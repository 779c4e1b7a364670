pub mod Laid
pub mod Facts
pub mod Checks
pub mod Front
pub mod Graph
pub mod Opened
pub mod Clauses
