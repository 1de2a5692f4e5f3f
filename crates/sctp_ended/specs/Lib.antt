pub mod Ended
pub mod Boundaries
pub mod KeptApart
