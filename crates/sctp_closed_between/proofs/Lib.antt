pub mod Given
pub mod NewPairs
pub mod RunsTell
pub mod SideCalls
pub mod StepsOnly
