pub mod Handshake
pub mod Greeting
pub mod Held
pub mod Receiver
