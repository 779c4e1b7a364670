pub mod Adjacency
pub mod Clauses
pub mod Inner
