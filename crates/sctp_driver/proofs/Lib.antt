mod MadeDrivers
mod NewMessages
mod PollsAsked
mod Silenced
mod StreamsStopped
mod TimersMet
mod Unchanged
