-- What message each call of a channel writes, by its deeds: the one that its reply lets tell, or none.
use Rattle.std.proofs.Common.{◌≡◌, ap, ◌⊎◌, inl, inr, ℕ, Bool, true, false, List, [], ◌∷◌}
use Rattle.std.specs.Prelude.{Ok, Err}
use Rattle.sctp_model.specs.Safe.{Letter}
use Rattle.sctp_steps.specs.declared.step.Side2.{Side2}
use Rattle.dcep_channel.specs.Channels.{AcknowledgesWhere, ChannelState, may_send, send_refusal}
use Rattle.dcep_channel.specs.Codec.{ack_bytes, is_too_long, open_bytes}
use Rattle.dcep_channel.specs.Deeds.{Deed}
use Rattle.dcep_channel.specs.declared.error.ChannelError.{ChannelError}
use Rattle.channel_pair.specs.declared.seat.Seat.{Seat}
use Rattle.channel_pair.specs.declared.seat.Seat.TheVariants as seats
use Rattle.channel_pair.specs.declared.step.ChannelStep.TheVariants as steps
use Rattle.channel_pair.specs.declared.step.ChannelReply.{ChannelReply}
use Rattle.channel_pair.specs.declared.step.ChannelReply.TheVariants as replies
use Rattle.channel_pair.specs.Letters.{letter}
use Rattle.channel_pair.specs.Promise.{may_write}
use Rattle.channel_pair.specs.Seats.{AcceptsAt, AcknowledgesAt, OpensAt, ReceivesAt, SendsAt}
use Rattle.channel_pair.proofs.DeedsLead.{bytes_in, outs_of}
use Rattle.channel_pair.proofs.SeatCalls.{accepts_err, accepts_none, accepts_some, begins_err, begins_ok, receives}
use Rattle.channel_pair.proofs.SeatCalls.{reliably_err, reliably_ok, sends_err, sends_ok}

-- the deeds write these messages, or none
abbrev pub WritesAtMost : List Deed → List (List ℕ) → Type 0
WritesAtMost ds messages = (bytes_in (outs_of ds) ≡ []) ⊎ (bytes_in (outs_of ds) ≡ messages)

wrote_none : (ds : List Deed) (messages : List (List ℕ)) → outs_of ds ≡ [] → WritesAtMost ds messages
wrote_none ds messages e = inl (ap (λ (ls : List Letter). bytes_in ls) e)

did_none : (ds : List Deed) (messages : List (List ℕ)) → ds ≡ [] → WritesAtMost ds messages
did_none ds messages e = wrote_none ds messages (ap outs_of e)

wrote_one : (ds : List Deed) (l : Letter) → outs_of ds ≡ l ∷ [] → WritesAtMost ds (l.bytes ∷ [])
wrote_one ds l e = inr (ap (λ (ls : List Letter). bytes_in ls) e)

pub open_writes : (failed : Bool) (priority : ℕ) (label protocol : List ℕ) (x : Side2) (a : Seat) (ds : List Deed)
    (r : ChannelReply) (b : Seat) → OpensAt failed priority label protocol a ds r b
    → WritesAtMost ds (may_write (steps.Open x priority label protocol) r)
open_writes failed priority label protocol x (seats.Taken c) ds r b (none, answered, same) =
    did_none ds (may_write (steps.Open x priority label protocol) r) none
open_writes failed priority label protocol x (seats.Vacant true) ds r b (none, answered, same) =
    did_none ds (may_write (steps.Open x priority label protocol) r) none
open_writes failed priority label protocol x (seats.Vacant false) ds replies.Opened (seats.Taken c) h =
    wrote_one ds (letter 50 (open_bytes priority label protocol))
    (begins_ok (is_too_long label protocol) (open_bytes priority label protocol) ds c h).0
open_writes failed priority label protocol x (seats.Vacant false) ds (replies.Refused e) b (begins, same) =
    wrote_none ds [] (begins_err (is_too_long label protocol) (open_bytes priority label protocol) ds e begins).0
open_writes failed priority label protocol x (seats.Vacant false) ds r b h = absurd h

pub accept_writes : (x : Side2) (a : Seat) (ds : List Deed) (r : ChannelReply) (b : Seat) → AcceptsAt a ds r b
    → WritesAtMost ds (may_write (steps.Accept x) r)
accept_writes x (seats.Taken c) ds r b (none, answered, same) = did_none ds [] none
accept_writes x (seats.Vacant spoiled) ds (replies.Accepted true) (seats.Taken c) h =
    wrote_none ds [] (accepts_some ds c h).1
accept_writes x (seats.Vacant spoiled) ds (replies.Accepted false) b (accepts, same) =
    wrote_none ds [] (accepts_none ds accepts).0
accept_writes x (seats.Vacant spoiled) ds (replies.Refused e) b (accepts, same) =
    wrote_none ds [] (accepts_err ds e accepts).0
accept_writes x (seats.Vacant spoiled) ds r b h = absurd h

-- A channel of which `ready` is whether it may send.

acknowledged : (failed ready : Bool) (c after : ChannelState) (ds : List Deed)
    → AcknowledgesWhere failed ready c ds (Ok tt) after → WritesAtMost ds (ack_bytes ∷ [])
acknowledged true ready c after ds (none, answered, same) = did_none ds (ack_bytes ∷ []) none
acknowledged false true c after ds (none, answered, same) = did_none ds (ack_bytes ∷ []) none
acknowledged false false c after ds (writes, same) =
    wrote_one ds (letter 50 ack_bytes) (reliably_ok ack_bytes ds tt writes).0

refused : (failed ready : Bool) (c after : ChannelState) (ds : List Deed) (e : ChannelError)
    → AcknowledgesWhere failed ready c ds (Err e) after → WritesAtMost ds []
refused true ready c after ds e (none, answered, same) = did_none ds [] none
refused false true c after ds e (none, answered, same) = did_none ds [] none
refused false false c after ds e (writes, same) = wrote_none ds [] (reliably_err ack_bytes ds e writes).0

pub acknowledge_writes : (x : Side2) (a : Seat) (ds : List Deed) (r : ChannelReply) (b : Seat)
    → AcknowledgesAt a ds r b → WritesAtMost ds (may_write (steps.Acknowledge x) r)
acknowledge_writes x (seats.Vacant spoiled) ds r b (none, answered, same) =
    did_none ds (may_write (steps.Acknowledge x) r) none
acknowledge_writes x (seats.Taken c) ds replies.Acknowledged (seats.Taken after) h =
    acknowledged c.failed (may_send c) c after ds h
acknowledge_writes x (seats.Taken c) ds (replies.Refused e) (seats.Taken after) h =
    refused c.failed (may_send c) c after ds e h
acknowledge_writes x (seats.Taken c) ds r b h = absurd h

pub send_writes : (bytes : List ℕ) (x : Side2) (a : Seat) (ds : List Deed) (r : ChannelReply) (b : Seat)
    → SendsAt bytes a ds r b → WritesAtMost ds (may_write (steps.Send x bytes) r)
send_writes bytes x (seats.Vacant spoiled) ds r b (none, answered, same) =
    did_none ds (may_write (steps.Send x bytes) r) none
send_writes bytes x (seats.Taken c) ds (replies.Sent n) b (sends, same) =
    wrote_one ds (letter 53 bytes) (sends_ok (send_refusal c) bytes ds n sends).1.0
send_writes bytes x (seats.Taken c) ds (replies.Refused e) b (sends, same) =
    wrote_none ds [] (sends_err (send_refusal c) bytes ds e sends).0
send_writes bytes x (seats.Taken c) ds r b h = absurd h

pub receive_writes : (x : Side2) (a : Seat) (ds : List Deed) (r : ChannelReply) (b : Seat) → ReceivesAt a ds r b
    → WritesAtMost ds (may_write (steps.Receive x) r)
receive_writes x (seats.Vacant spoiled) ds r b (none, answered, same) = did_none ds [] none
receive_writes x (seats.Taken c) ds (replies.Received message) (seats.Taken after) h =
    wrote_none ds [] (receives c.failed c after ds (Ok message) h).0
receive_writes x (seats.Taken c) ds (replies.Refused e) (seats.Taken after) h =
    wrote_none ds [] (receives c.failed c after ds (Err e) h).0
receive_writes x (seats.Taken c) ds r b h = absurd h
