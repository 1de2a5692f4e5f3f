-- Which events are whose, and what they leave as it was of the direction in which they happen.
use Rattle.std.specs.Prelude.{◌≡◌, ◌≤◌, ℕ, length, slice_get, Some, ⊤}
use Rattle.sctp_model.specs.Packets.{Data, Forward, Sack}
use Rattle.sctp_model.specs.Machine.{Direction, Event, gone_front}

-- The direction v is w after an event of the sender: the DATA and the FORWARD TSNs given out stay, and the receiver's
-- side is the same.
pub record IsSentOn (w v : Direction) : Type 0 where
  pub datas : (k : ℕ) (d : Data) → slice_get w.datas k ≡ Some d → slice_get v.datas k ≡ Some d
  pub forwards : (k : ℕ) (f : Forward) → slice_get w.forwards k ≡ Some f → slice_get v.forwards k ≡ Some f
  pub sacks : v.sacks ≡ w.sacks
  pub receiver : v.receiver ≡ w.receiver
  pub reads : v.reads ≡ w.reads
  pub over : v.over ≡ w.over
  pub size : v.sender.plan.size ≡ w.sender.plan.size

-- Of w there stay in v the sender, the spans, the DATA and the FORWARD TSNs that were given out and the SACKs that were
-- made.
pub record IsReceived (w v : Direction) : Type 0 where
  pub sender : v.sender ≡ w.sender
  pub over : v.over ≡ w.over
  pub datas : v.datas ≡ w.datas
  pub forwards : v.forwards ≡ w.forwards
  pub sacks : (k : ℕ) (x : Sack) → slice_get w.sacks k ≡ Some x → slice_get v.sacks k ≡ Some x

-- events at the sender: all but those of a stream's end and of what may follow that
abbrev pub IsOfSending : Event → Type 0
IsOfSending (Event.Write s m) = ⊤
IsOfSending (Event.PassOver s) = ⊤
IsOfSending (Event.Drop s i) = ⊤
IsOfSending (Event.Begin s i any) = ⊤
IsOfSending Event.GoOn = ⊤
IsOfSending (Event.Resend o) = ⊤
IsOfSending (Event.Abandon s i) = ⊤
IsOfSending (Event.SackComes k) = ⊤
IsOfSending Event.ForwardMade = ⊤
IsOfSending e = ⊥

-- events at the receiver by which DATA is taken in, passed over, acknowledged and read, and the receiver's end
abbrev pub IsOfReceiving : Event → Type 0
IsOfReceiving (Event.DataComes k) = ⊤
IsOfReceiving Event.SackMade = ⊤
IsOfReceiving (Event.ForwardComes k) = ⊤
IsOfReceiving (Event.Open s) = ⊤
IsOfReceiving (Event.Read s) = ⊤
IsOfReceiving Event.Close = ⊤
IsOfReceiving e = ⊥

-- an event of the sender accepts a message
abbrev pub AcceptsAMessage : Event → Type 0
AcceptsAMessage (Event.Write s m) = ⊤
AcceptsAMessage e = ⊥

-- an event of the sender assigns an offset: to a piece, or to the rest of an abandoned message
abbrev pub Assigns : Event → Type 0
Assigns (Event.Begin s i any) = ⊤
Assigns Event.GoOn = ⊤
Assigns (Event.Abandon s i) = ⊤
Assigns e = ⊥

-- an event of the sender makes a FORWARD TSN
abbrev pub MakesAForward : Event → Type 0
MakesAForward Event.ForwardMade = ⊤
MakesAForward e = ⊥

-- a FORWARD TSN that is made passes over 16,384 offsets at most; of other events nothing is said
abbrev pub IsForwardWithin : Direction → Event → Type 0
IsForwardWithin w Event.ForwardMade = length (gone_front w.sender) ≤ 16384
IsForwardWithin w e = ⊤

-- an event of the receiver may give a message to the reader
abbrev pub GivesAMessage : Event → Type 0
GivesAMessage (Event.Read s) = ⊤
GivesAMessage e = ⊥

-- this offset is that of the DATA that an event brings
abbrev pub Brings : Direction → Event → ℕ → Type 0
Brings w (Event.DataComes k) o = (d : Data) × (slice_get w.datas k ≡ Some d) × (o ≡ d.offset)
Brings w e o = ⊥

-- this reach is that of the FORWARD TSN that an event brings
abbrev pub BringsForward : Direction → Event → ℕ → Type 0
BringsForward w (Event.ForwardComes k) n = (f : Forward) × (slice_get w.forwards k ≡ Some f) × (n ≡ f.reach)
BringsForward w e n = ⊥

-- some events after which the limits hold, where they held before
abbrev pub KeepsWithin : Event → Type 0
KeepsWithin (Event.Drop s i) = ⊤
KeepsWithin (Event.SackComes k) = ⊤
KeepsWithin Event.ForwardMade = ⊤
KeepsWithin (Event.DataComes k) = ⊤
KeepsWithin Event.SackMade = ⊤
KeepsWithin (Event.ForwardComes k) = ⊤
KeepsWithin (Event.Open s) = ⊤
KeepsWithin Event.Close = ⊤
KeepsWithin (Event.End s) = ⊤
KeepsWithin e = ⊥
