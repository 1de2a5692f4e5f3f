pub mod GapAckBlocks
pub mod Keys
pub mod LastReceived
pub mod Leaving
pub mod Pushed
pub mod Taken
pub mod ToldBlocks
pub mod Turned
