pub mod Blocks
pub mod Received
pub mod TsnRanges
