pub mod Loan
pub mod Valid
pub mod Checks
pub mod Clauses
pub mod Theorems
pub mod Inner
