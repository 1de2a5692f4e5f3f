pub mod BlockRuns
pub mod FoldedLanes
pub mod FoldedRuns
pub mod LinearBits
pub mod TableEntries
