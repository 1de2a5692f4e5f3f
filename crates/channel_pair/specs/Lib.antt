pub mod ChannelWorld
pub mod Letters
pub mod Names
pub mod PairDeeds
pub mod Promise
pub mod Seats
pub mod Shapes
pub mod Steps
