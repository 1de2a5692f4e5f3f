pub mod LostRuns
pub mod ReadMessages
