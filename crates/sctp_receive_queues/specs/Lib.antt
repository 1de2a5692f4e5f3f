pub mod Ascending
pub mod Messages
pub mod Pieces
pub mod Reach
pub mod Reassembly
