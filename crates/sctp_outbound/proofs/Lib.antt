pub mod SenderSteps
mod StreamReleases
pub mod GapAcks
pub mod AckedBefore
pub mod MarkedPieces
pub mod MissingPieces
pub mod NewPieces
pub mod BlockOffsets
pub mod GivenUp
pub mod ForwardMade
pub mod Unlimited
pub mod Spared
pub mod NoneLeft
pub mod Dropped
pub mod Falling
pub mod Passes
