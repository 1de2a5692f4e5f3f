pub mod ReadableStreams
pub mod WaitingBytes
pub mod LowMarks
pub mod StreamChanges
pub mod TableIsMap
pub mod TableWalks
