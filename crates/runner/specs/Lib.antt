pub mod Program
pub mod Theorems
