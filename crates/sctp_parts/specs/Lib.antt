pub mod Shared
pub mod State
pub mod Stats
pub mod Timers
pub mod Estimate
