-- One direction as a machine: a sender, a receiver, and a network between them that loses, repeats, delays and
-- reorders, but alters and forges nothing. What an implementation may choose freely is an event; what its rules fix
-- (all that a SACK and a FORWARD TSN say) is made by its rule.
use Rattle.std.specs.Prelude.{ℕ, zero, suc, ◌+◌, ◌-◌, max, Bool, true, false, not, ◌&&◌, ◌||◌, List, [], ◌∷◌, ◌++◌}
use Rattle.std.specs.Prelude.{length, drop, filter, Option, Some, None, slice_get, ◌==◌, nat_lt, nat_le, if◌then◌else◌}
use Rattle.sctp_model.specs.Messages.{Message, Place, Plan, as_kept, is_reliable, place_at, message_at, message_of}
use Rattle.sctp_model.specs.Messages.{is_last, bytes_below}
use Rattle.sctp_model.specs.Packets.{Data, Sack, Forward, mem, names, skips, data_at}
use Rattle.sctp_model.specs.Reassembly.{Queue, Got, Taken, empty_queue, next, push, skip_if, drop_unordered}

-- The sender of a direction (RFC 4960 section 6.1, RFC 3758 section 3.5).
pub record Sender : Type 0 where
  pub plan : Plan
  pub current : Option Place  -- the next piece of the message of which some pieces have an offset and some have none
  pub next : ℕ → ℕ  -- by stream: each ordered message below this number was begun, or dropped unsent
  pub ssn : ℕ → ℕ  -- by stream: the sequence number of the next ordered message
  pub begun : ℕ → ℕ → Bool  -- message i of stream s has an offset
  pub gone : ℕ → ℕ → Bool  -- message i of stream s was abandoned, or dropped unsent
  pub reach : ℕ  -- the acknowledged reach, how far the acknowledgements reach: every offset below it is acknowledged
  pub acknowledged : ℕ → Bool
  pub released : ℕ → ℕ  -- by stream: bytes that no longer count as buffered

-- The receiver of a direction: the offsets taken in, the greatest reach of a FORWARD TSN taken, and by stream its
-- reassembly, none while the stream isn't there.
pub record Receiver : Type 0 where
  pub taken : List ℕ
  pub passed : ℕ
  pub queues : ℕ → Option Queue
  pub is_open : Bool  -- neither closed nor failed

-- Both ends, all that was ever given out, what was read and what was skipped. Loss, repetition, delay and reordering
-- are one thing: of what was given out any may come, at any time and again.
pub record Direction : Type 0 where
  pub sender : Sender
  pub receiver : Receiver
  pub datas : List Data
  pub sacks : List Sack
  pub forwards : List Forward
  pub reads : ℕ → List Got
  -- by stream: one past the greatest sequence number, before it wraps, that a FORWARD TSN skipped in it, of those taken
  -- while the stream was there; 0 before the first. No step looks at it.
  pub skipped : ℕ → ℕ
  -- the stream's span is over: a reset was asked for, or the stream retired or stopped, at either end
  pub over : ℕ → Bool

abbrev pub put : {X : Type 0} → (ℕ → X) → ℕ → X → ℕ → X
put f s x t = if t == s then x else f t

abbrev pub put_2 : (ℕ → ℕ → Bool) → ℕ → ℕ → ℕ → ℕ → Bool
put_2 f s i t j = if (t == s) && (j == i) then true else f t j

-- The start, with payloads of `size` bytes.
abbrev pub fresh : ℕ → Direction
fresh size = record {
  sender = record {
    plan = record { size = size; accepted = λ s. []; places = [] };
    current = None;
    next = λ s. 0;
    ssn = λ s. 0;
    begun = λ s i. false;
    gone = λ s i. false;
    reach = 0;
    acknowledged = λ o. false;
    released = λ s. 0;
  };
  receiver = record { taken = []; passed = 0; queues = λ s. None; is_open = true };
  datas = [];
  sacks = [];
  forwards = [];
  reads = λ s. [];
  skipped = λ s. 0;
  over = λ s. false;
}

-- The sender

-- a write is accepted: at least one byte
abbrev pub with_message : Plan → ℕ → Message → Plan
with_message p s m = record p { accepted = put p.accepted s (p.accepted s ++ m ∷ []) }

abbrev pub written : Sender → ℕ → Message → Sender
written x s m = record x { plan = with_message x.plan s m }

abbrev pub is_empty : Message → Bool
is_empty m = length m.bytes == 0

abbrev pub has_message : Plan → ℕ → ℕ → Bool
has_message p s i = nat_lt i (length (p.accepted s))

-- the stream's next ordered message is looked for one number further: the message there is unordered, or was dropped
abbrev pub can_pass_over : Sender → ℕ → Bool
can_pass_over x s =
    has_message x.plan s (x.next s) && (not (message_at x.plan s (x.next s)).ordered || x.gone s (x.next s))

abbrev pub passed_over : Sender → ℕ → Sender
passed_over x s = record x { next = put x.next s (suc (x.next s)) }

-- message i of stream s was accepted, stands on no offset, and wasn't dropped
abbrev pub is_unsent : Sender → ℕ → ℕ → Bool
is_unsent x s i = has_message x.plan s i && (not (x.begun s i) && not (x.gone s i))

-- only a message that isn't reliable is dropped or abandoned
abbrev pub can_drop : Sender → ℕ → ℕ → Bool
can_drop x s i = is_unsent x s i && not (is_reliable (message_at x.plan s i).policy)

abbrev pub dropped : Sender → ℕ → ℕ → Sender
dropped x s i = record x {
  gone = put_2 x.gone s i;
  released = put x.released s (x.released s + length (message_at x.plan s i).bytes);
}

-- ordered messages get their offsets in the order of their numbers; unordered ones at any time
abbrev pub is_due : Sender → ℕ → ℕ → Bool
is_due x s i = not (message_at x.plan s i).ordered || (i == x.next s)

abbrev pub can_begin : Sender → ℕ → ℕ → Bool
can_begin x s i = is_unsent x s i && is_due x s i

abbrev pub first_place : ℕ → ℕ → ℕ → Place
first_place s i number = record { stream = s; message = i; piece = 0; ssn = number; marker = false }

-- an ordered message gets the stream's next sequence number; an unordered one has any number
abbrev pub number_for : Sender → ℕ → ℕ → ℕ → ℕ
number_for x s i any = if (message_at x.plan s i).ordered then x.ssn s else any

abbrev pub following : Place → Place
following y = record y { piece = suc y.piece }

-- what is still to be sent of its message after the piece y
abbrev pub left_after : Plan → Place → Option Place
left_after p y = if is_last p y then None else Some (following y)

-- the next offset goes to y
abbrev pub with_place : Plan → Place → Plan
with_place p y = record p { places = p.places ++ y ∷ [] }

abbrev pub sent : Sender → Place → Sender
sent x y = record x { plan = with_place x.plan y; current = left_after x.plan y }

abbrev pub counted : Sender → ℕ → ℕ → Bool → Sender
counted x s i true =
    record x { begun = put_2 x.begun s i; next = put x.next s (suc i); ssn = put x.ssn s (suc (x.ssn s)) }
counted x s i false = record x { begun = put_2 x.begun s i }

abbrev pub next_data : Sender → Place → Data
next_data x y = data_at (with_place x.plan y) (length x.plan.places)

abbrev pub begin : Direction → ℕ → ℕ → ℕ → Direction
begin w s i number = record w {
  sender = counted (sent w.sender (first_place s i number)) s i (message_at w.sender.plan s i).ordered;
  datas = w.datas ++ next_data w.sender (first_place s i number) ∷ [];
}

-- no message begins while another has pieces to be sent
abbrev pub begin_if : Direction → ℕ → ℕ → ℕ → Option Place → Direction
begin_if w s i any None = if can_begin w.sender s i then begin w s i (number_for w.sender s i any) else w
begin_if w s i any (Some y) = w

abbrev pub go_on : Direction → Option Place → Direction
go_on w None = w
go_on w (Some y) = record w { sender = sent w.sender y; datas = w.datas ++ next_data w.sender y ∷ [] }

-- a piece that was sent goes out again; what was never sent, an abandoned tail, doesn't
abbrev pub can_resend : Plan → ℕ → Bool
can_resend p o = nat_lt o (length p.places) && not (place_at p o).marker

-- a message of which something was sent is abandoned whole; a tail that is still unsent gets one offset (RFC 3758
-- section 3.5, A3)
abbrev pub can_abandon : Sender → ℕ → ℕ → Bool
can_abandon x s i = has_message x.plan s i
    && (x.begun s i && not (x.gone s i) && not (is_reliable (message_at x.plan s i).policy))

abbrev pub is_of : Place → ℕ → ℕ → Bool
is_of y s i = (y.stream == s) && (y.message == i)

abbrev pub marked : Sender → Place → Sender
marked x y = record x { plan = with_place x.plan (record y { marker = true }); current = None }

abbrev pub tail_marked : Sender → ℕ → ℕ → Option Place → Sender
tail_marked x s i None = x
tail_marked x s i (Some y) = if is_of y s i then marked x y else x

-- bytes that stay buffered no longer: those of the message that weren't acknowledged
abbrev pub unacknowledged : Sender → ℕ → ℕ → ℕ
unacknowledged x s i = length (message_at x.plan s i).bytes
    - bytes_below x.plan (λ o. x.acknowledged o && ((place_at x.plan o).message == i)) s (length x.plan.places)

abbrev pub left : Sender → ℕ → ℕ → Sender
left x s i = record x {
  gone = put_2 x.gone s i;
  released = put x.released s (x.released s + unacknowledged x s i);
}

abbrev pub abandoned : Sender → ℕ → ℕ → Sender
abandoned x s i = left (tail_marked x s i x.current) s i

abbrev pub is_gone : Sender → Place → Bool
is_gone x y = x.gone y.stream y.message

-- a SACK whose reach isn't below the acknowledged one acknowledges what it names (RFC 4960 section 6.2.1), and the
-- bytes that it acknowledges for the first time are released
abbrev pub newly : Sender → Sack → ℕ → Bool
newly x k o = names k o && (not (x.acknowledged o) && not (is_gone x (place_at x.plan o)))

abbrev pub acknowledged_by : Sender → Sack → Sender
acknowledged_by x k = record x {
  reach = k.reach;
  acknowledged = λ o. x.acknowledged o || names k o;
  released = λ s. x.released s + bytes_below x.plan (newly x k) s (length x.plan.places);
}

abbrev pub sack_comes : Direction → Option Sack → Direction
sack_comes w None = w
sack_comes w (Some k) = if nat_lt k.reach w.sender.reach then w else record w { sender = acknowledged_by w.sender k }

-- the front of some places whose messages are all abandoned
abbrev pub gone_among : Sender → List Place → List Place
gone_among x [] = []
gone_among x (y ∷ ys) = if is_gone x y then y ∷ gone_among x ys else []

-- the places past the acknowledged reach, up to the first whose message isn't abandoned (RFC 3758 section 3.5, C2)
abbrev pub gone_front : Sender → List Place
gone_front x = gone_among x (drop x.reach x.plan.places)

-- the sequence number, before it wraps, of the last ordered message of stream s among these; no other of these has a
-- greater one, since from the acknowledged reach on a stream's numbers ascend
abbrev pub is_ordered_of : Plan → ℕ → Place → Bool
is_ordered_of p s y = (y.stream == s) && (message_of p y).ordered

abbrev pub last_ssn : Plan → ℕ → List Place → Option ℕ → Option ℕ
last_ssn p s [] found = found
last_ssn p s (y ∷ ys) found = last_ssn p s ys (if is_ordered_of p s y then Some y.ssn else found)

abbrev pub forward_of : Sender → (ℕ → Bool) → Forward
forward_of x over = record {
  reach = x.reach + length (gone_front x);
  numbers = λ s. last_ssn x.plan s (gone_front x) None;
  start = x.reach;
  past = over;
}

-- The receiver

-- from p on, the offsets taken in without a gap, n at most
abbrev pub climb : List ℕ → ℕ → ℕ → ℕ
climb taken zero p = p
climb taken (suc n) p = if mem p taken then climb taken n (suc p) else p

abbrev pub past_all : List ℕ → ℕ
past_all [] = 0
past_all (o ∷ os) = suc o + past_all os

-- the cumulative reach: each offset below it was taken in or passed over, and itself it was not
abbrev pub reach : Receiver → ℕ
reach r = climb r.taken (past_all r.taken) r.passed

-- a SACK names the reach, and of what was taken in all that lies above it (RFC 4960 section 6.2)
abbrev pub sack_of : Receiver → Sack
sack_of r = record { reach = reach r; above = filter (λ o. nat_le (reach r) o) r.taken }

-- DATA is new where it lies at or past the reach and wasn't taken in
abbrev pub is_new : Receiver → ℕ → Bool
is_new r o = nat_le (reach r) o && not (mem o r.taken)

-- a stream that isn't there is made, empty
abbrev pub live : Option Queue → Queue
live None = empty_queue
live (Some q) = q

abbrev pub took : Receiver → Data → Receiver
took r d = record r {
  taken = d.offset ∷ r.taken;
  queues = put r.queues d.stream (Some (push (live (r.queues d.stream)) d));
}

abbrev pub data_comes : Direction → Option Data → Direction
data_comes w None = w
data_comes w (Some d) =
    if w.receiver.is_open && is_new w.receiver d.offset then record w { receiver = took w.receiver d } else w

-- a FORWARD TSN above the reach is taken (RFC 3758 section 3.6); it says nothing to a stream that isn't there
abbrev pub forwarded : Option Queue → ℕ → Option ℕ → Option Queue
forwarded None reach m = None
forwarded (Some q) reach m = Some (drop_unordered reach (skip_if q m))

abbrev pub moved : Receiver → Forward → Receiver
moved r f = record r { passed = f.reach; queues = λ s. forwarded (r.queues s) f.reach (skips f s) }

-- the number up to which a stream was skipped; one that isn't there is not skipped
abbrev pub skipped_by : Option Queue → Option ℕ → ℕ → ℕ
skipped_by None n before = before
skipped_by (Some q) None before = before
skipped_by (Some q) (Some n) before = max before (suc n)

abbrev pub passes : Direction → Forward → Direction
passes w f = record w {
  receiver = moved w.receiver f;
  skipped = λ s. skipped_by (w.receiver.queues s) (f.numbers s) (w.skipped s);
}

abbrev pub forward_comes : Direction → Option Forward → Direction
forward_comes w None = w
forward_comes w (Some f) = if w.receiver.is_open && nat_lt (reach w.receiver) f.reach then passes w f else w

abbrev pub was_read : Direction → ℕ → Option Taken → Direction
was_read w s None = w
was_read w s (Some t) = record w {
  receiver = record w.receiver { queues = put w.receiver.queues s (Some t.rest) };
  reads = put w.reads s (w.reads s ++ t.got ∷ []);
}

abbrev pub read : Direction → ℕ → Option Queue → Direction
read w s None = w
read w s (Some q) = if w.receiver.is_open then was_read w s (next q) else w

abbrev pub opened : Option Queue → Option Queue
opened None = Some empty_queue
opened (Some q) = Some q

-- none of these places is of stream s
abbrev pub none_of : ℕ → List Place → Bool
none_of s [] = true
none_of s (y ∷ ys) = not (y.stream == s) && none_of s ys

-- no message of stream s goes on
abbrev pub none_goes_on : ℕ → Option Place → Bool
none_goes_on s None = true
none_goes_on s (Some y) = not (y.stream == s)

-- A stream's sequence numbers begin again only when the request to reset it ended in success (RFC 6525 section 5.1.2).
-- That request first goes out when none of the stream's DATA is queued or not cumulatively acknowledged, and until it
-- ended no write on the stream is accepted. So by then each of its offsets lies below the acknowledged reach, and no
-- message of it goes on.
abbrev pub can_restart : Direction → ℕ → Bool
can_restart w s = w.over s && (none_of s (drop w.sender.reach w.sender.plan.places) && none_goes_on s w.sender.current)

-- What may happen. An event that can't happen where it stands changes nothing.
pub data Event : Type 0 where
  Write : ℕ → Message → Event  -- a write on a stream is accepted
  PassOver : ℕ → Event
  Drop : ℕ → ℕ → Event  -- message i of stream s is dropped unsent
  -- the first piece of message i of stream s gets the next offset and goes out; the third number is the sequence number
  -- that it carries if it is unordered
  Begin : ℕ → ℕ → ℕ → Event
  GoOn : Event  -- so does the next piece of the message that was begun
  Resend : ℕ → Event  -- the piece of an offset goes out again
  Abandon : ℕ → ℕ → Event  -- message i of stream s is abandoned
  SackComes : ℕ → Event  -- the SACK of this number comes, for the first time or again
  ForwardMade : Event
  DataComes : ℕ → Event
  SackMade : Event
  ForwardComes : ℕ → Event
  Open : ℕ → Event  -- the receiver's application opens the stream
  Read : ℕ → Event
  Close : Event  -- the receiver closes or fails
  End : ℕ → Event  -- the stream's span ends
  Restart : ℕ → Event  -- past its span, with nothing of it unacknowledged: the stream's sequence numbers begin again
  Replace : ℕ → Option Queue → Event  -- past its span: whatever becomes of the stream at the receiver

unfoldable pub happens : Direction → Event → Direction
happens w (Write s m) = if is_empty m then w else record w { sender = written w.sender s (as_kept m) }
happens w (PassOver s) = if can_pass_over w.sender s then record w { sender = passed_over w.sender s } else w
happens w (Drop s i) = if can_drop w.sender s i then record w { sender = dropped w.sender s i } else w
happens w (Begin s i any) = begin_if w s i any w.sender.current
happens w GoOn = go_on w w.sender.current
happens w (Resend o) =
    if can_resend w.sender.plan o then record w { datas = w.datas ++ data_at w.sender.plan o ∷ [] } else w
happens w (Abandon s i) = if can_abandon w.sender s i then record w { sender = abandoned w.sender s i } else w
happens w (SackComes k) = sack_comes w (slice_get w.sacks k)
happens w ForwardMade =
    if nat_lt 0 (length (gone_front w.sender)) then
    record w { forwards = w.forwards ++ forward_of w.sender w.over ∷ [] } else w
happens w (DataComes k) = data_comes w (slice_get w.datas k)
happens w SackMade = record w { sacks = w.sacks ++ sack_of w.receiver ∷ [] }
happens w (ForwardComes k) = forward_comes w (slice_get w.forwards k)
happens w (Open s) =
    record w { receiver = record w.receiver { queues = put w.receiver.queues s (opened (w.receiver.queues s)) } }
happens w (Read s) = read w s (w.receiver.queues s)
happens w Close = record w { receiver = record w.receiver { is_open = false } }
happens w (End s) = record w { over = put w.over s true }
happens w (Restart s) =
    if can_restart w s then record w { sender = record w.sender { ssn = put w.sender.ssn s 0 } } else w
happens w (Replace s q) =
    if w.over s then record w { receiver = record w.receiver { queues = put w.receiver.queues s q } } else w

abbrev pub run : List Event → Direction → Direction
run [] w = w
run (e ∷ es) w = run es (happens w e)
