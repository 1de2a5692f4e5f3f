mod Lengths
mod OpenMessages
mod Spelled
