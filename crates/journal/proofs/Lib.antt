pub mod Facts
pub mod Matrix
pub mod Slot
pub mod Store
pub mod Laid
pub mod Empty
pub mod Table
pub mod Clauses
