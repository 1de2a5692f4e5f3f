pub mod Runs
pub mod Stored
