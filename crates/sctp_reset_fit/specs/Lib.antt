pub mod Pieces
pub mod Held
pub mod Stands
pub mod Laws
pub mod Keeping
