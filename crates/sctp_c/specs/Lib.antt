pub mod Codes
pub mod Configs
pub mod Events
pub mod Lists
pub mod Releases
pub mod Slots
pub mod Totals
pub mod Watches
