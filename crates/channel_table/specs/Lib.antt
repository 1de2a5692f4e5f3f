pub mod Channels
pub mod Kinds
pub mod Payloads
pub mod Tables
