pub mod Log
pub mod Clauses
pub mod Theorems
