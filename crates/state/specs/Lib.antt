pub mod State
pub mod Valid
pub mod Clauses
pub mod Checks
pub mod Laid
pub mod Inner
