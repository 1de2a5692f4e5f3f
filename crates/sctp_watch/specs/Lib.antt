pub mod Ends
pub mod Observers
pub mod Watching
