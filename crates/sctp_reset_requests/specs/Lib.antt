pub mod Ids
pub mod Request
pub mod Peer
pub mod Named
pub mod Own
pub mod Laws
pub mod Debts
