pub mod Between
pub mod Laws
