pub mod Ecn
pub mod Ids
pub mod Errors
pub mod Config
pub mod Checks
