mod ChannelCalls
mod OpenMessages
mod Reading
mod Refusals
mod Spelled
