pub mod World
pub mod Fits
pub mod Counted
pub mod Callers
pub mod Across
pub mod Sides
