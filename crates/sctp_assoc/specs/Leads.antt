-- Where an association stands in the past of its two directions, and where acts lead it.
use Rattle.std.specs.Prelude.{◌≡◌, true, List}
use Rattle.std.specs.List.{AllByRecursion}
use Rattle.sctp_serial.specs.Serial.{tsn}
use Rattle.sctp_outbound_queue.specs.declared.message.InFlight.{InFlight}
use Rattle.sctp_outbound_queue.specs.Message.{is_outstanding}
use Rattle.sctp_fit.specs.HeldSet.{HoldsPast, peer_last_tsn_of}
use Rattle.sctp_directions.specs.Acts.{Act, CanAll, History, Parts, done_all, receiving}
use Rattle.sctp_assoc.specs.Shown.{Shown}

-- What the two directions see of an association.
abbrev pub parts : Shown → History → Parts
parts a h =
    record { queue = a.sender.queue; streams = a.streams; size = a.sender.max_payload_size; history = h }

-- An association stands where its history says.
pub record Binds (a : Shown) (h : History) : Type 0 where
  pub first : a.sender.queue.first_tsn ≡ tsn h.own h.base
  pub peer_last_tsn : a.receiver.peer_last_tsn ≡ peer_last_tsn_of (receiving (parts a h))
  pub held : HoldsPast (receiving (parts a h)) a.receiver.held
  -- what is to go out again is neither acknowledged nor abandoned
  pub marked : AllByRecursion (λ (x : InFlight). x.retransmit ≡ true → is_outstanding x ≡ true)
      a.sender.queue.in_flight

-- From one state of an association to another by these acts: they can be done, and they lead there.
pub record Leads (xs : List Act) (a : Shown) (h : History) (b : Shown) (k : History) : Type 0 where
  pub can : CanAll xs (parts a h)
  pub there : parts b k ≡ done_all xs (parts a h)
  pub binds : Binds b k

-- Nothing more came.
pub record IsSamePast (h k : History) : Type 0 where
  pub peer : k.peer ≡ h.peer
  pub taken : k.taken ≡ h.taken
  pub passed : k.passed ≡ h.passed

-- From each history on which the association stands, these acts lead from a to b.
abbrev pub LeadsOn : List Act → Shown → Shown → Type 0
LeadsOn xs a b = (h : History) → Binds a h → (k : History) × Leads xs a h b k
