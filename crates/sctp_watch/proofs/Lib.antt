pub mod Drained
pub mod FirstEnds
