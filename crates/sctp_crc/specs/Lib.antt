pub mod Crc
pub mod Fold
