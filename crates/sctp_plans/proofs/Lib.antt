pub mod RestsOfMessages
pub mod Proved
pub mod GrownPlans
