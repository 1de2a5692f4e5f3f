-- A side that sends leads the course of each of its streams on: what it assigns, and what it asks for.
use Rattle.std.specs.Prelude.{◌≡◌, ◌<◌, ◌+◌, ◌^◌, ◌⊎◌, ℕ, suc, Bool, true, false, List, length, slice_get}
use Rattle.std.specs.Prelude.{Option, Some, None, ⊤}
use Rattle.std.specs.List.{AllByRecursion}
use Rattle.sctp_serial.specs.Serial.{tsn}
use Rattle.sctp_wire.specs.Numbers.{IsU16}
use Rattle.sctp_model.specs.Packets.{mem}
use Rattle.sctp_outbound_queue.specs.declared.message.InFlight.{InFlight}
use Rattle.sctp_outbound_queue.specs.Outbound.{has_stream}
use Rattle.sctp_reset_requests.specs.declared.own_request.OwnRequest.{OwnRequest}
use Rattle.sctp_reset_requests.specs.declared.own_request.SentRequest.{SentRequest}
use Rattle.sctp_reset_requests.specs.Ids.{has_id}
use Rattle.sctp_reset_requests.specs.Own.{AreNumbered, open_with, resets}
use Rattle.sctp_reset_requests.specs.Request.{PeerRequestView, names_all}
use Rattle.sctp_courses.specs.Course.{Course, boundary_at, is_named}
use Rattle.sctp_courses.specs.Events.{Event, is_to_be_reset, run}
use Rattle.sctp_reset_fit.specs.Stands.{last_below}
use Rattle.sctp_directions.specs.Acts.{History}
use Rattle.sctp_assoc.specs.Shown.{Shown}
use Rattle.sctp_sides.specs.Restarts.{is_being_reset}

-- The request that was sent and is not answered is the last one that the course has.
pub record IsLastAsked (initial id : ℕ) (c : Course) (s : SentRequest) : Type 0 where
  pub index : ℕ
  pub last : length c.asked ≡ suc index
  pub number : s.request.number ≡ tsn initial index
  pub boundary : s.last_tsn ≡ last_below initial (boundary_at c.asked index)
  pub named : resets id s.request ≡ is_named c.asked index

-- No DATA of the stream waits or is in flight, and none is accepted: it is being reset, or its last reset failed.
pub record IsHeldBack (id : ℕ) (a : Shown) : Type 0 where
  pub quiet : has_stream a.sender.queue id ≡ false
  pub barred : (is_being_reset a id ≡ true) ⊎ (has_id id a.resets.debts.failed ≡ true)

-- identifiers of streams have 16 bits (RFC 4960 section 3.3.1)
abbrev pub AreIdentifiers : List ℕ → Type 0
AreIdentifiers ids = AllByRecursion IsU16 ids

-- a request names its streams one by one, and one at least; its number has 32 bits
pub record NamesStreams (r : OwnRequest) : Type 0 where
  pub listed : r.names_all ≡ false
  pub some : 0 < length r.ids
  pub small : AreIdentifiers r.ids
  pub numbered : r.number < 2 ^ 32

-- a request of the peer names its streams one by one
pub record PeerNames (q : PeerRequestView) : Type 0 where
  pub listed : names_all q ≡ false
  pub small : AreIdentifiers q.ids

-- the numbers of these requests have 32 bits
abbrev pub AreSmall : Option SentRequest → List OwnRequest → Type 0
AreSmall active queued = AllByRecursion (λ (r : OwnRequest). r.number < 2 ^ 32) (open_with active queued)

-- the peer's request that waits, if there is one, names its streams, too
abbrev pub PeerNamesStreams : Option PeerRequestView → Type 0
PeerNamesStreams None = ⊤
PeerNamesStreams (Some q) = PeerNames q

-- What a side sends of a stream is its course: the offsets that it assigned, those of the stream's pieces that are in
-- flight, and its requests by their numbers. While a request that names the stream was not performed, it is held back.
pub record Sends (initial id : ℕ) (a : Shown) (h : History) (c : Course) : Type 0 where
  pub small : initial < 2 ^ 32
  pub own : h.own ≡ initial
  pub assigned : c.assigned ≡ h.base + length a.sender.queue.in_flight
  pub mine : (index : ℕ) (x : InFlight) → slice_get a.sender.queue.in_flight index ≡ Some x
      → x.message.stream_identifier ≡ id → mem (h.base + index) c.mine ≡ true
  pub numbers : a.resets.own.next_number ≡ tsn initial (length c.asked + length a.resets.own.queued)
  pub in_order : AreNumbered (open_with a.resets.own.active a.resets.own.queued) a.resets.own.next_number
  pub active : (s : SentRequest) → a.resets.own.active ≡ Some s → IsLastAsked initial id c s
  pub by_ids : AllByRecursion NamesStreams (open_with a.resets.own.active a.resets.own.queued)
  pub peer_by_ids : PeerNamesStreams a.resets.peer.in_progress
  pub waiting : AreIdentifiers a.resets.own.waiting
  pub held_back : is_to_be_reset c ≡ true → IsHeldBack id a

-- the receiver does nothing by an event
abbrev pub is_at_sender : Event → Bool
is_at_sender Event.AssignsMine = true
is_at_sender Event.AssignsOther = true
is_at_sender (Event.Asks named) = true
is_at_sender e = false

-- The course goes on by what its sender does.
pub record SendsOn (c d : Course) : Type 0 where
  pub events : List Event
  pub sent : AllByRecursion (λ (e : Event). is_at_sender e ≡ true) events
  pub is : d ≡ run events c
