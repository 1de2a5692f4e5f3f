mod AsBox
mod Both
mod Opened
mod Polled
