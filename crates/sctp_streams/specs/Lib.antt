pub mod Stats
pub mod Stream
pub mod Streams
pub mod LowMarks
pub mod Events
pub mod Table
pub mod TableLends
