pub mod Additions
pub mod Halving
pub mod Parts
pub mod Removals
pub mod Rows
