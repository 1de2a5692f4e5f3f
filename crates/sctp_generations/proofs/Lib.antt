pub mod Walks
pub mod Sieves
pub mod TsnSets
pub mod NewestEnded
