-- A world of a pair with what was sent and received on a channel in it, and which of them a pair with a channel fits.
use Rattle.std.specs.Prelude.{◌≡◌, ℕ, Bool, true, false, List, [], ◌++◌}
use Rattle.std.specs.List.{AllByRecursion}
use Rattle.sctp_steps.specs.declared.step.Side2.{Side2}
use Rattle.sctp_model.specs.Safe.{Letter}
use Rattle.sctp_pair.specs.Fits.{Fits}
use Rattle.sctp_pair.specs.World.{IsOrderedAndReliable, World, loose_of}
use Rattle.dcep_channel.specs.Channels.{may_send}
use Rattle.channel_pair.specs.declared.seat.Seat.{Seat}
use Rattle.channel_pair.specs.declared.seat.Seat.TheVariants as seats
use Rattle.channel_pair.specs.Letters.{AreControls, data_letters, data_of, from_side, letters_in, letters_out}
use Rattle.channel_pair.specs.Shapes.{Shape, seat_of}

-- A world, with the messages that each side sent on its channel, and those that it received.
pub record ChannelWorld : Type 0 where
  pub world : World
  pub sent : Side2 → List (List ℕ)
  pub got : Side2 → List (List ℕ)

-- nothing was sent or received yet
abbrev pub begun : World → ChannelWorld
begun w = record { world = w; sent = λ x. []; got = λ x. [] }

-- All that side x wrote on a stream so far is ordered and reliable, within the stream's span, and what it writes next
-- will be.
pub record IsKeptFrom (x : Side2) (id : ℕ) (w : World) : Type 0 where
  pub span : (from_side x w).over id ≡ false
  pub tight : loose_of x w id ≡ false
  pub kept : AllByRecursion IsOrderedAndReliable ((from_side x w).sender.plan.accepted id)

-- nothing was written or read on a stream, which is within its span and not loose, by either side
pub record HasNothingOn (id : ℕ) (w : World) : Type 0 where
  pub kept : (x : Side2) → IsKeptFrom x id w
  pub out : (x : Side2) → letters_out x id w ≡ []
  pub ins : (x : Side2) → letters_in x id w ≡ []

-- data may be sent next
abbrev pub may_send_from : Seat → Bool
may_send_from (seats.Vacant spoiled) = false
may_send_from (seats.Taken c) = may_send c

-- What a side wrote: messages of DCEP, and behind them the data that was sent, once it may send.
abbrev pub WroteBy : Bool → List Letter → List (List ℕ) → Type 0
WroteBy true out sent = (controls : List Letter) × AreControls controls × (out ≡ controls ++ data_letters sent)
WroteBy false out sent = AreControls out × (sent ≡ [])

-- What a side read: with a channel, the data of it was received; without one nothing was, and nothing was read unless
-- the seat is spoiled.
abbrev pub GotBy : Seat → List Letter → List (List ℕ) → Type 0
GotBy (seats.Vacant true) ins got = got ≡ []
GotBy (seats.Vacant false) ins got = (ins ≡ []) × (got ≡ [])
GotBy (seats.Taken c) ins got = got ≡ data_of ins

-- A pair with a channel on this stream fits a world of it: the pair fits the world, all that either side wrote on the
-- stream is ordered and reliable, within its span, and what was written and read there is what was sent and received.
pub record FitsOn (id : ℕ) (p : Shape) (c : ChannelWorld) : Type 0 where
  pub fits : Fits p.pair c.world
  pub kept : (x : Side2) → IsKeptFrom x id c.world
  pub wrote : (x : Side2) → WroteBy (may_send_from (seat_of x p)) (letters_out x id c.world) (c.sent x)
  pub got : (x : Side2) → GotBy (seat_of x p) (letters_in x id c.world) (c.got x)

abbrev pub FitsChannel : Shape → ChannelWorld → Type 0
FitsChannel p c = FitsOn p.id p c
