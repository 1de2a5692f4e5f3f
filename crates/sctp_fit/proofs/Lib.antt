pub mod BegunCounts
pub mod BlocksTaken
mod BytesPartitioned
mod BytesReleased
pub mod CountsBelow
pub mod CutsGiven
pub mod DataTaken
mod FirstPiece
pub mod FlightAcknowledged
pub mod ForwardTaken
pub mod ForwardTold
pub mod FrontAlike
pub mod HeldTsns
pub mod MarksSayNothing
pub mod MessageDropped
pub mod MessagesAccepted
mod NamesKept
pub mod NextPiece
pub mod NothingToSend
mod NumbersMoveDown
pub mod OtherEnd
pub mod SendersPinned
pub mod PlacesCounted
pub mod PlansExtended
pub mod CumulativeAcksTaken
pub mod QueuesPinned
pub mod ReachClimbs
pub mod ReadsAnswered
pub mod SentAgain
pub mod GrownPlansStand
pub mod SpanEnded
mod SpansNamed
pub mod StreamsChanged
pub mod StreamsThere
pub mod TailMarked
pub mod TimesStarted
mod LastUnsent
mod UnsentKept
mod WholeAbandoned
