pub mod Laid
pub mod Front
pub mod Swapped
pub mod Clauses
