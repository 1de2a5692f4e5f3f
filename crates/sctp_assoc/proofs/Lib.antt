mod BesideOne
mod FilledBuffers
mod FindsTold
mod FreshHistory
mod HiddenData
mod MemoryTaken
mod PacketsReadAgain
mod RequestsReadAgain
mod RequestsOver
mod ControlSaid
mod SacksTell
mod SettlesPlainly
mod SkipsTold
mod FallsInPolls
mod TakingSettles
pub mod ActsKeepOffsets
pub mod CallsLeadOn
pub mod ClosesLeadOn
pub mod ContinuedShutdown
pub mod DataCame
pub mod DataLeadsOn
pub mod Dropping
pub mod EndsOfPolls
pub mod EventsTold
pub mod ForwardCame
pub mod GivenApart
pub mod Giving
pub mod GivingUp
pub mod HandshakeFacts
pub mod Leading
pub mod MarksOutstanding
pub mod PacketEnds
pub mod PartsOfPolls
pub mod PassesOver
pub mod PolledData
pub mod PolledSteps
pub mod PollsLeadOn
pub mod Probes
pub mod QuietRequests
pub mod ReadsLeadOn
pub mod Replied
pub mod RequestsGiven
mod RequestsHandled
mod RetiringStopped
mod TimersTake
pub mod ResetsLeadOn
pub mod Stopping
pub mod StopsLeadOn
pub mod StreamReads
pub mod StreamsFound
pub mod StreamsWait
pub mod UnreadData
pub mod WhatCame
