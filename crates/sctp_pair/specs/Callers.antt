-- What a caller of a pair can tell of it by its steps and their replies alone: what it wrote and what it read.
use Rattle.std.specs.Prelude.{◌≡◌, ◌<◌, ℕ, ◌+◌, ◌&&◌, ◌==◌, Bool, false, if◌then◌else◌, List, [], ◌∷◌, ◌++◌, Option}
use Rattle.std.specs.Prelude.{Some}
use Rattle.std.specs.Prelude.{None, ⊤, true, not, slice_get}
use Rattle.sctp_model.specs.Safe.{AreDistinct}
use Rattle.sctp_wire_types.specs.declared.ids.PayloadProtocolIdentifier.{PayloadProtocolIdentifier}
use Rattle.sctp_receive_queues.specs.Messages.{ReceivedMessage, bytes_left}
use Rattle.sctp_assoc.specs.declared.call.Reply.{Reply}
use Rattle.sctp_assoc.specs.declared.call.Reply.TheVariants as replies
use Rattle.sctp_steps.specs.declared.step.Side2.{Side2}
use Rattle.sctp_steps.specs.declared.step.Side2.TheVariants as sides
use Rattle.sctp_steps.specs.declared.step.Step.{Step}
use Rattle.sctp_steps.specs.declared.step.Step.TheVariants as steps
use Rattle.sctp_pair.specs.Counted.{AreFew, FitsCounted, Tally, nothing_tallied, pieces_of, tallied}
use Rattle.sctp_steps.specs.Ends.{Ends}
use Rattle.sctp_steps.specs.Steps.{Runs, Writing, reading_of, writing_of}
use Rattle.sctp_steps.specs.Seen.{is_side}
use Rattle.sctp_pair.specs.World.{IsSafeWorld, IsWorldStep, World, empty_world, ends_span, loosens}
use Rattle.sctp_steps.specs.Seen.{message_read}
use Rattle.sctp_steps.specs.Seen.{other_side}

-- One step and its reply

abbrev pub bytes_accepted : Option Writing → Reply → Side2 → ℕ → List (List ℕ)
bytes_accepted (Some writing) (replies.Wrote count) x s =
    if is_side writing.side x && (writing.id == s) then writing.bytes ∷ [] else []
bytes_accepted writing reply x s = []

-- the message that this step wrote at side x on stream s, as its bytes, where the write was accepted
abbrev pub bytes_written : Step → Reply → Side2 → ℕ → List (List ℕ)
bytes_written step reply x s = bytes_accepted (writing_of step) reply x s

-- the bytes of a message, if there is one
abbrev pub bytes_of : Option ReceivedMessage → List (List ℕ)
bytes_of None = []
bytes_of (Some message) = bytes_left message ∷ []

abbrev pub bytes_answered : Option (Side2 × ℕ) → Reply → Side2 → ℕ → List (List ℕ)
bytes_answered (Some reading) (replies.Read message) x s =
    if is_side reading.0 x && (reading.1 == s) then bytes_of message else []
bytes_answered reading reply x s = []

-- the message that a read of side x on stream s was answered, as its bytes
abbrev pub bytes_read : Step → Reply → Side2 → ℕ → List (List ℕ)
bytes_read step reply x s = bytes_answered (reading_of step) reply x s

-- this step handed side x a packet of the other side; one that is refused, or is not there, does not count
abbrev pub delivers_to : Side2 → Step → Reply → Bool
delivers_to x (steps.Deliver side number now) replies.Done = is_side side x
delivers_to x step reply = false

-- Rows of steps with their replies

-- what side x wrote on stream s, message by message
abbrev pub written_in : List Step → List Reply → Side2 → ℕ → List (List ℕ)
written_in (a ∷ ss) (r ∷ rs) x s = bytes_written a r x s ++ written_in ss rs x s
written_in [] rs x s = []
written_in (a ∷ ss) [] x s = []

-- what side x read on stream s, message by message
abbrev pub read_in : List Step → List Reply → Side2 → ℕ → List (List ℕ)
read_in (a ∷ ss) (r ∷ rs) x s = bytes_read a r x s ++ read_in ss rs x s
read_in [] rs x s = []
read_in (a ∷ ss) [] x s = []

-- of that, what it read before the first packet that it was handed
abbrev pub read_undelivered : List Step → List Reply → Side2 → ℕ → List (List ℕ)
read_undelivered (a ∷ ss) (r ∷ rs) x s =
    if delivers_to x a r then [] else bytes_read a r x s ++ read_undelivered ss rs x s
read_undelivered [] rs x s = []
read_undelivered (a ∷ ss) [] x s = []

-- how many pieces, of at most `size` bytes each, the messages have that side x wrote
abbrev pub accepted_in : ℕ → Side2 → List Step → List Reply → ℕ
accepted_in size x (a ∷ ss) (r ∷ rs) = pieces_of size x a r + accepted_in size x ss rs
accepted_in size x [] rs = 0
accepted_in size x (a ∷ ss) [] = 0

-- A message as the step that wrote it tells it: its payload type where the step names one (or else it is the stream's),
-- and its bytes.
pub record WrittenMessage : Type 0 where
  pub named : Option PayloadProtocolIdentifier
  pub bytes : List ℕ

abbrev pub message_accepted : Option Writing → Reply → Side2 → ℕ → List WrittenMessage
message_accepted (Some writing) (replies.Wrote count) x s =
    if is_side writing.side x && (writing.id == s) then record { named = writing.named; bytes = writing.bytes } ∷ []
    else []
message_accepted writing reply x s = []

abbrev pub messages_of : Option ReceivedMessage → List ReceivedMessage
messages_of None = []
messages_of (Some message) = message ∷ []

-- what side x wrote on stream s, and what it read there, as whole messages
abbrev pub messages_written : List Step → List Reply → Side2 → ℕ → List WrittenMessage
messages_written (a ∷ ss) (r ∷ rs) x s = message_accepted (writing_of a) r x s ++ messages_written ss rs x s
messages_written [] rs x s = []
messages_written (a ∷ ss) [] x s = []

abbrev pub messages_read : List Step → List Reply → Side2 → ℕ → List ReceivedMessage
messages_read (a ∷ ss) (r ∷ rs) x s = messages_of (message_read a r x s) ++ messages_read ss rs x s
messages_read [] rs x s = []
messages_read (a ∷ ss) [] x s = []

-- The promise

abbrev pub IsFrontOf : List (List ℕ) → List (List ℕ) → Type 0
IsFrontOf xs ys = (rest : List (List ℕ)) × (ys ≡ xs ++ rest)

-- no step set stream s to send other messages from side x on than ordered, reliable ones
abbrev pub stays_in_order : List Step → List Reply → Side2 → ℕ → Bool
stays_in_order (a ∷ ss) (r ∷ rs) x s = not (loosens a r x s) && stays_in_order ss rs x s
stays_in_order [] rs x s = true
stays_in_order (a ∷ ss) [] x s = true

-- no step stopped stream s or closed it, at either side
abbrev pub stays_in_span : List Step → List Reply → ℕ → Bool
stays_in_span (a ∷ ss) (r ∷ rs) s = not (ends_span a r s) && stays_in_span ss rs s
stays_in_span [] rs s = true
stays_in_span (a ∷ ss) [] s = true

-- On a stream that neither side stopped (by a stop, or by a close of both halves), and that the other side kept in
-- order, what either side read is, message by message and in order, a front of what the other side wrote on it.
abbrev pub ReadsAreFronts : List Step → List Reply → Type 0
ReadsAreFronts ss rs = (x : Side2) (s : ℕ) → stays_in_span ss rs s ≡ true → stays_in_order ss rs x s ≡ true
    → IsFrontOf (read_in ss rs (other_side x) s) (written_in ss rs x s)

-- a message is under the payload type that its write names, if that names one
abbrev pub IsNamed : Option PayloadProtocolIdentifier → PayloadProtocolIdentifier → Type 0
IsNamed None kind = ⊤
IsNamed (Some named) kind = kind ≡ named

-- What was read is what was written.
pub record IsAsWritten (message : ReceivedMessage) (written : WrittenMessage) : Type 0 where
  pub bytes : bytes_left message ≡ written.bytes
  pub payload_type : IsNamed written.named message.payload_type

-- each message that was read is the one that was written at its index, one index for each
abbrev pub AreAt : List ReceivedMessage → List ℕ → List WrittenMessage → Type 0
AreAt [] [] written = ⊤
AreAt (message ∷ messages) (index ∷ indexes) written =
    ((w : WrittenMessage) × (slice_get written index ≡ Some w) × IsAsWritten message w)
    × AreAt messages indexes written
AreAt [] (index ∷ indexes) written = ⊥
AreAt (message ∷ messages) [] written = ⊥

-- On each stream that neither side stopped, in order or not, each message that either side read was written by the
-- other side, whole, and is read at most once.
abbrev pub ReadsWereWritten : List Step → List Reply → Type 0
ReadsWereWritten ss rs = (x : Side2) (s : ℕ) → stays_in_span ss rs s ≡ true
    → (indexes : List ℕ) × AreDistinct indexes
    × AreAt (messages_read ss rs (other_side x) s) indexes (messages_written ss rs x s)

-- a side that was handed no packet yet reads nothing on a stream that neither side stopped
abbrev pub NothingIsReadBeforeADelivery : List Step → List Reply → Type 0
NothingIsReadBeforeADelivery ss rs = (x : Side2) (s : ℕ) → stays_in_span ss rs s ≡ true
    → read_undelivered ss rs x s ≡ []

-- All steps of a pair

-- What a pair was made with: the payload sizes of A and of B, and their initial TSNs.
pub record Made : Type 0 where
  pub size_a : ℕ
  pub size_b : ℕ
  pub initial_a : ℕ
  pub initial_b : ℕ

-- the world in which nothing happened yet to the pair p that was made so
abbrev pub world_of : Made → Ends → World
world_of m p = empty_world p m.initial_a m.initial_b m.size_a m.size_b

-- the tally after one step more of a pair that was made so
abbrev pub tallied_by : Made → Step → Reply → Tally → Tally
tallied_by m step reply t = tallied m.size_a m.size_b step reply t

-- the tally after these steps, from t on
abbrev pub tally_from : Made → Tally → List Step → List Reply → Tally
tally_from m t (a ∷ ss) (r ∷ rs) = tally_from m (tallied_by m a r t) ss rs
tally_from m t [] rs = t
tally_from m t (a ∷ ss) [] = t

-- the tally of all of these steps
abbrev pub tally_of : Made → List Step → List Reply → Tally
tally_of m ss rs = tally_from m nothing_tallied ss rs

-- To a new pair nothing happened yet.
abbrev pub IsNew : Made → Ends → Type 0
IsNew m p = FitsCounted nothing_tallied p (world_of m p)

-- After each of these steps so far, tallied from t on, few pieces are not acknowledged and few messages not read.
-- `begin` is the pair as it was before the first of them.
abbrev pub StaysFew : Made → Tally → List Step → List Reply → Ends → Type 0
StaysFew m t (a ∷ ss) (r ∷ rs) begin =
    AreFew (tallied_by m a r t) m.initial_a m.initial_b begin × StaysFew m (tallied_by m a r t) ss rs begin
StaysFew m t [] rs begin = ⊤
StaysFew m t (a ∷ ss) [] begin = ⊤

-- The steps with these replies led from world to world, from w on: each of these worlds was safe, and the pair fitted
-- it with the tally after the steps so far. (`RunsCounted` promises this where few are not acknowledged and not read;
-- here it is what was so.)
abbrev pub LedSafely : Made → List Step → List Reply → World → Tally → Ends → Type 0
LedSafely m [] [] w t q = FitsCounted t q w
LedSafely m (a ∷ ss) (r ∷ rs) w t q =
    (v : World) × IsWorldStep a w r v × IsSafeWorld v × FitsCounted (tallied_by m a r t) v.ends v
    × LedSafely m ss rs v (tallied_by m a r t) q
LedSafely m [] (r ∷ rs) w t q = ⊥
LedSafely m (a ∷ ss) [] w t q = ⊥

-- These are all steps of a pair since it was new, with their replies, and it is p now. They led safely from world to
-- world, from the one in which nothing happened.
pub record CameBy (m : Made) (ss : List Step) (rs : List Reply) (p : Ends) : Type 0 where
  pub begin : Ends
  pub new : IsNew m begin
  pub led : Runs ss rs begin p
  pub safely : LedSafely m ss rs (world_of m begin) nothing_tallied p

-- Whatever steps led to p, these follow them as its next ones and lead to q, where few pieces stay unacknowledged in
-- them and few messages unread.
abbrev pub ComesOn : List Step → List Reply → Ends → Ends → Type 0
ComesOn more answers p q =
    (m : Made) (ss : List Step) (rs : List Reply) → CameBy m ss rs p
    → StaysFew m (tally_of m ss rs) more answers p → CameBy m (ss ++ more) (rs ++ answers) q

-- Whatever steps led to p, this holds of them with these behind them, where few pieces stay unacknowledged in these and
-- few messages unread.
abbrev pub HoldsOn : (List Step → List Reply → Type 0) → List Step → List Reply → Ends → Type 0
HoldsOn Law more answers p =
    (m : Made) (ss : List Step) (rs : List Reply) → CameBy m ss rs p
    → StaysFew m (tally_of m ss rs) more answers p → Law (ss ++ more) (rs ++ answers)

-- Where little is accepted at all

-- Each side accepted fewer than 16,384 pieces in all of these steps, where A puts at most size_a bytes of a message
-- into a piece, B at most size_b.
pub record AcceptFew (size_a size_b : ℕ) (ss : List Step) (rs : List Reply) : Type 0 where
  pub of_a : accepted_in size_a sides.A ss rs < 16384
  pub of_b : accepted_in size_b sides.B ss rs < 16384

-- Whatever steps led to p: where each side accepted few pieces in all of them and these behind them, few stay
-- unacknowledged in these and few messages unread, whatever is acknowledged and read.
abbrev pub FewStayFew : List Step → List Reply → Ends → Type 0
FewStayFew more answers p =
    (m : Made) (ss : List Step) (rs : List Reply) → CameBy m ss rs p
    → AcceptFew m.size_a m.size_b (ss ++ more) (rs ++ answers) → StaysFew m (tally_of m ss rs) more answers p

-- So it is of all steps that lead from p to q.
abbrev pub FewAcceptedStayFew : Type 0
FewAcceptedStayFew = (more : List Step) (answers : List Reply) (p q : Ends) → Runs more answers p q
    → FewStayFew more answers p
