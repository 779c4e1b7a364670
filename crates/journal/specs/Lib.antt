pub mod Journal
pub mod Clauses
