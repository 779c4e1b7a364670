-- What contracts of inner code cite and no reader has to believe: the entries' contracts do without it.
-- Assumes nothing.
pub mod Cellwise
pub mod Laid
