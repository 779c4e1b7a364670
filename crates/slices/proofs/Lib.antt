pub mod Same
pub mod Zero
pub mod Part
pub mod PartSum
