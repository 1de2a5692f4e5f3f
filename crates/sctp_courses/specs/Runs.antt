-- The machine does something: runs of a few events, with what is read in them.
use Rattle.std.specs.Prelude.{◌≡◌, ℕ, true, List, [], ◌∷◌, Some}
use Rattle.sctp_courses.specs.Course.{Told, fresh_course}
use Rattle.sctp_courses.specs.Events.{Event, run}

-- One message comes, and a reset is asked for and performed while it waits to be read.
abbrev pub until_performed : List Event
until_performed =
    Event.Opens 0 ∷ Event.AssignsMine ∷ Event.Takes 0 ∷ Event.Advances 1 ∷ Event.Asks true ∷ Event.Comes
    ∷ Event.Performs ∷ Event.Retires ∷ Event.Releases ∷ []

-- The next one is kept, and read in the next generation, which is the first past the request.
abbrev pub until_read : List Event
until_read =
    Event.AssignsMine ∷ Event.Keeps 1 ∷ Event.Reads (0 ∷ []) ∷ Event.Reads (1 ∷ []) ∷ Event.Passes ∷ Event.Opens 1
    ∷ Event.Gives ∷ Event.Reads (1 ∷ []) ∷ []

abbrev pub told_in : ℕ → ℕ → Told
told_in generation offset = record { generation = generation; offsets = offset ∷ [] }

abbrev pub KeptIsReadInTheNext : Type 0
KeptIsReadInTheNext =
    ((run until_read (run until_performed fresh_course)).told ≡ told_in 0 0 ∷ told_in 1 1 ∷ [])
    × ((run until_read (run until_performed fresh_course)).past 0 ≡ Some 1)

-- before it is performed nothing more can be sent, and nothing more is read in the old generation
abbrev pub NothingIsSentInAReset : Type 0
NothingIsSentInAReset =
    (run (Event.Asks true ∷ Event.AssignsMine ∷ []) fresh_course).mine ≡ []

-- A generation that the application stops and the next one may lie between the same two requests: then both lie past
-- the first.
abbrev pub until_stopped : List Event
until_stopped =
    Event.Reads (0 ∷ []) ∷ Event.Passes ∷ Event.AssignsMine ∷ Event.Advances 1 ∷ Event.Opens 1 ∷ Event.Takes 1
    ∷ Event.Reads (1 ∷ []) ∷ Event.Closes ∷ Event.Vanishes ∷ Event.AssignsMine ∷ Event.Opens 2 ∷ Event.Takes 2
    ∷ Event.Reads (2 ∷ []) ∷ []

abbrev pub TwoGenerationsLieBetween : Type 0
TwoGenerationsLieBetween =
    ((run until_stopped (run until_performed fresh_course)).told ≡ told_in 0 0 ∷ told_in 1 1 ∷ told_in 2 2 ∷ [])
    × ((run until_stopped (run until_performed fresh_course)).past 0 ≡ Some 1)
