pub mod Losing
pub mod Reading
