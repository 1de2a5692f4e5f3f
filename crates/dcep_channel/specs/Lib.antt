pub mod AssocDeeds
pub mod Channels
pub mod Codec
pub mod Deeds
pub mod Faults
