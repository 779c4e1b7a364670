pub mod Records
pub mod Undo
pub mod Valid
pub mod Clauses
