pub mod LessNumbers
pub mod Members
pub mod Standing
