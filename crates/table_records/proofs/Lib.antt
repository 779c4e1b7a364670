pub mod Records
pub mod ReadBack
