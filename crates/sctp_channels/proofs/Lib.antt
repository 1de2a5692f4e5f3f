mod Dropped
mod Placed
mod Turned
mod Unannounced
