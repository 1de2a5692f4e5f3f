pub mod Course
pub mod Events
pub mod Invariants
pub mod Laws
pub mod Runs
