pub mod Answers
pub mod Events
pub mod Handles
pub mod Kinds
pub mod Polls
pub mod Slots
