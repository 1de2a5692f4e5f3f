pub mod Acts
pub mod Reports
pub mod Said
pub mod Between
pub mod Events
pub mod Laws
