-- A poll for packets leads on by its acts, and gives what they say.
use Rattle.std.proofs.Common.{◌≡◌, refl, sym, ap, ◌∙◌, subst, ℕ, ◌<◌, arith, Bool, true, false, ◌&&◌}
use Rattle.std.proofs.Common.{if◌then◌else◌, slice_get, List, [], ◌∷◌, ◌++◌}
use Rattle.std.proofs.lemmas.Bool.{and_parts, false≢true}
use Rattle.std.proofs.lemmas.List.{append-nil}
use Rattle.std.specs.List.{filter}
use Rattle.sctp_serial.specs.Serial.{tsn}
use Rattle.sctp_wire_types.specs.declared.chunk.Chunk.{Chunk}
use Rattle.sctp_wire_types.specs.declared.chunk.Chunk.TheVariants as chunks
use Rattle.sctp_wire_types.specs.declared.chunk.ChunkPayloadData.{ChunkPayloadData}
use Rattle.sctp_wire_types.specs.declared.packet.CommonHeader.{CommonHeader}
use Rattle.sctp_wire.specs.DataPackets.{all_of, data_fits, datagrams_of}
use Rattle.sctp_outbound_queue.specs.declared.message.InFlight.{InFlight}
use Rattle.sctp_outbound_queue.specs.Outbound.{abandoned_in_front_of, is_abandoned_piece}
use Rattle.sctp_inbound.specs.declared.handshake.Handshake.{Handshake}
use Rattle.sctp_inbound.specs.Handshake.{header_of}
use Rattle.sctp_inbound.specs.Receiver.{acknowledged, past_of}
use Rattle.sctp_outbound.specs.declared.sender.Sender.{Sender}
use Rattle.sctp_outbound.specs.Forward.{forward_given, forward_of, gives_forward, is_front_abandoned}
use Rattle.sctp_directions.specs.Acts.{Act, History, Parts, all_data_given, done_all}
use Rattle.sctp_assoc.specs.Calls.{exchanges_data, is_established}
use Rattle.sctp_assoc.specs.Gather.{AreControlReadAgain, AreReadAgain, ForwardIsReadAgain, IsReadAgain, PollIsReadAgain}
use Rattle.sctp_assoc.specs.Gather.{AreRequestsReadAgain, ControlRequestsReadAgain, PollRequestsReadAgain}
use Rattle.sctp_assoc.specs.Gather.{ShutdownIsReadAgain, ack_after, ack_polled, after_both, control_polled, data_after}
use Rattle.sctp_assoc.specs.Gather.{data_polled, exchange_polled}
use Rattle.sctp_assoc.specs.Gather.{forward_after, forward_chunk, forward_polled, forwards_given, is_due, packet_bytes}
use Rattle.sctp_assoc.specs.Gather.{open_polled, polled, requests_after, requests_polled, sack_packet, shutdown_polled}
use Rattle.sctp_assoc.specs.Gather.{without_control}
use Rattle.sctp_assoc.specs.Happened.{Polls, PollsOn, acks_given, acts_of_ack, acts_of_data_poll, acts_of_exchange}
use Rattle.sctp_assoc.specs.Happened.{acts_of_forwarding, acts_of_poll, exchange_given, forwards_of_poll}
use Rattle.sctp_assoc.specs.Happened.{AsksForNothing, requests_given}
use Rattle.sctp_assoc.specs.Leads.{Binds, Leads, parts}
use Rattle.sctp_wire_types.specs.declared.param.ParamOutgoingResetRequest.{ParamOutgoingResetRequest}
use Rattle.sctp_reset_requests.specs.Own.{OwnView}
use Rattle.sctp_resets.specs.Within.{OwnOver}
use Rattle.sctp_assoc.specs.declared.control.Control.{Control}
use Rattle.sctp_assoc.specs.Resets.{with_reconfig_run}
use Rattle.sctp_assoc.specs.Shown.{Shown}
use Rattle.sctp_assoc.proofs.ActsKeepOffsets.{acts_tied, given_append}
use Rattle.sctp_assoc.proofs.Giving.{Gives}
use Rattle.sctp_assoc.proofs.Leading.{leads_beside, leads_by, leads_nowhere, leads_on, past_itself}
use Rattle.sctp_assoc.proofs.MarksOutstanding.{AreMarkedRight, acts_marked}
use Rattle.sctp_assoc.proofs.ControlSaid.{control_is_said}
use Rattle.sctp_assoc.proofs.EndsOfPolls.{polls_ending}
use Rattle.sctp_assoc.proofs.GivenApart.{again_with, control_changes, with_own_control}
use Rattle.sctp_assoc.proofs.PartsOfPolls.{ack_sender, acked_if, after_ack, after_forward, both_first, both_second}
use Rattle.sctp_assoc.proofs.PartsOfPolls.{reconfig_run_leaves, requests_leave}
use Rattle.sctp_assoc.proofs.PolledSteps.{IsSentBeside, data_of_poll, data_poll_carries, data_poll_gives}
use Rattle.sctp_assoc.proofs.PolledSteps.{data_after_stays, data_poll_stays}
use Rattle.sctp_assoc.proofs.QuietRequests.{none_requested, own_stays}
use Rattle.sctp_assoc.proofs.RequestsGiven.{beside_requests, parts_left, requests_of, requests_said, requests_sent}
use Rattle.sctp_assoc.proofs.RequestsGiven.{sent_behind_data}
use Rattle.sctp_assoc.proofs.RequestsOver.{control_over, requested_over}
use Rattle.sctp_assoc.proofs.RequestsReadAgain.{requests_again_if}
use Rattle.sctp_assoc.proofs.WhatCame.{same_held}

abbrev polled_if : Bool → Shown → ℕ → Shown × List (List ℕ)
polled_if c a now = if c then forward_after (ack_after (requests_after (data_after a now))) else (a, [])

ack_leads_if : (due : Bool) (b : Shown) (h : History) → Binds b h
    → Leads (if due then Act.Reported ∷ [] else []) b h (acked_if due b).0 h
ack_leads_if true b h binds =
    leads_by (Act.Reported ∷ []) b (record b { receiver = acknowledged b.receiver }) h binds (tt, tt) refl refl
    (past_itself h)
ack_leads_if false b h binds = leads_nowhere b b h binds refl refl

ack_leads : (b : Shown) (h : History) → Binds b h → Leads (acts_of_ack b) b h (ack_polled b).0 h
unfolding ack_polled
ack_leads b h binds = ack_leads_if (is_due b.receiver.ack_state) b h binds

ack_said_if : (due : Bool) (b : Shown) → (acked_if due b).1 ≡ (if due then sack_packet b else [])
ack_said_if true b = refl
ack_said_if false b = refl

pub ack_said : (b : Shown) → (ack_polled b).1 ≡ acks_given b
unfolding ack_polled
ack_said b = ack_said_if (is_due b.receiver.ack_state) b

-- FORWARD TSN

positive_front : (p : InFlight) (ps : List InFlight) → p.abandoned ≡ true → 0 < abandoned_in_front_of (p ∷ ps)
positive_front p ps e = rw e (omega arith)

front_positive : (ps : List InFlight) → is_abandoned_piece (slice_get ps 0) ≡ true → 0 < abandoned_in_front_of ps
front_positive [] e = absurd (false≢true e)
front_positive (p ∷ ps) e = positive_front p ps e

forward_leads_if : (gives : Bool) (b : Shown) (h : History) → gives_forward b.sender ≡ gives → Binds b h
    → Leads (acts_of_forwarding gives) b h (record b { sender = forward_given b.sender }) h
forward_leads_if true b h e binds =
    let front = (and_parts b.sender.is_forward_due (is_front_abandoned b.sender) e).1 in
    leads_by (Act.Forwarded ∷ []) b (record b { sender = forward_given b.sender }) h binds
    (front_positive b.sender.queue.in_flight front, tt) refl refl (past_itself h)
forward_leads_if false b h e binds = leads_nowhere b (record b { sender = forward_given b.sender }) h binds refl refl

forwarding_leads : (b : Shown) (h : History) → Binds b h
    → Leads (acts_of_forwarding (gives_forward b.sender)) b h (forward_polled b).0 h
unfolding forward_polled
forwarding_leads b h binds = forward_leads_if (gives_forward b.sender) b h refl binds

forward_said : (b : Shown) → (forward_polled b).1 ≡ forwards_given b
unfolding forward_polled
forward_said b = refl

-- what is in flight says the same FORWARD TSN after it was given
forward_chunk_stays : (b : Shown) → forward_chunk (forward_polled b).0 ≡ forward_chunk b
unfolding forward_polled
forward_chunk_stays b = refl

-- FORWARD TSN gives no DATA out
pub forwardings_are_silent : (gives : Bool) (p : Parts) → all_data_given (acts_of_forwarding gives) p ≡ []
forwardings_are_silent true p = refl
forwardings_are_silent false p = refl

-- a report gives no DATA out
pub reports_are_silent : (due : Bool) (p : Parts) → all_data_given (if due then Act.Reported ∷ [] else []) p ≡ []
reports_are_silent true p = refl
reports_are_silent false p = refl

-- the DATA of a poll is what its acts give out
pieces_said : (xs : List Act) (a : Shown) (forwards : Bool) (p q : Parts) (given : List ChunkPayloadData)
    → Gives xs p q given → all_data_given (xs ++ acts_of_ack a ++ acts_of_forwarding forwards) p ≡ given
pieces_said xs a forwards p q given gives =
    given_append (xs ++ acts_of_ack a) (acts_of_forwarding forwards) p
    ∙ ap (λ (z : List ChunkPayloadData). all_data_given (xs ++ acts_of_ack a) p ++ z)
    (forwardings_are_silent forwards (done_all (xs ++ acts_of_ack a) p))
    ∙ append-nil (all_data_given (xs ++ acts_of_ack a) p)
    ∙ given_append xs (acts_of_ack a) p
    ∙ ap (λ (z : List ChunkPayloadData). all_data_given xs p ++ z)
    (reports_are_silent (is_due a.receiver.ack_state) (done_all xs p))
    ∙ append-nil (all_data_given xs p) ∙ gives.said

-- DATA, and then the acknowledgement
acked_of : (b : Shown) (xs : List Act) (a : Shown) (h : History) (given : List ChunkPayloadData) → IsSentBeside a b
    → Binds a h → Gives xs (parts a h) (parts b h) given
    → Leads (xs ++ acts_of_ack a) a h (ack_polled b).0 h
acked_of b xs a h given same binds gives =
    let mid : Leads xs a h b h = record {
      can = gives.can;
      there = gives.there;
      binds = record {
        first =
            ap (λ (p : Parts). p.queue.first_tsn) gives.there ∙ acts_tied xs (parts a h) gives.can binds.first
            ∙ ap (λ (p : Parts). tsn p.history.own p.history.base) (sym gives.there);
        peer_last_tsn = rw same.receiver binds.peer_last_tsn;
        held = rw same.receiver (same_held h h a.streams b.streams (past_itself h) binds.held);
        marked =
            subst (λ (p : Parts). AreMarkedRight p.queue.in_flight) (sym gives.there)
            (acts_marked xs (parts a h) binds.marked);
      };
    } in
    let ack : Leads (acts_of_ack a) b h (ack_polled b).0 h = rw (← same.acts) (ack_leads b h mid.binds) in
    leads_on xs (acts_of_ack a) mid ack

-- requests to reset streams, the acknowledgement and FORWARD TSN behind packets of DATA
exchange_behind : (first : List (List ℕ)) (y : Shown × List (List ℕ))
    → forward_after (ack_after (after_both first y))
    ≡ after_both (first ++ y.1 ++ (ack_polled y.0).1) (forward_polled (ack_polled y.0).0)
exchange_behind first y =
    ap forward_after (after_ack first y) ∙ after_forward (first ++ y.1) (ack_polled y.0)

-- the packets of DATA, of the requests, of the acknowledgement and of FORWARD TSN
pub packets_said : (x : Shown × List (List ChunkPayloadData)) (a : Shown) → IsSentBeside a x.0
    → (forward_after (ack_after (requests_after x))).1
    ≡ datagrams_of (header_of a.handshake) x.1 ++ requests_given (header_of a.handshake) (requests_sent x.0)
    ++ acks_given a
    ++ (if gives_forward x.0.sender then packet_bytes (header_of a.handshake) (forward_chunk x.0) else [])
packets_said (b, bundles) a same =
    let y = (requests_polled b).0 in
    let rest = requests_leave b in
    let acked = ack_polled y in
    let sender : acked.0.sender ≡ b.sender = (ack_sender y).0 ∙ rest.sender in
    let handshake : acked.0.handshake ≡ b.handshake = (ack_sender y).1 ∙ rest.handshake in
    let acks : acked.1 ≡ acks_given a = ack_said y ∙ (beside_requests a b y same rest).acks in
    let first = datagrams_of (header_of b.handshake) bundles in
    let requests = requests_given (header_of b.handshake) (requests_sent b) in
    ap (λ (z : Shown × List (List ℕ)). z.1) (exchange_behind first (requests_polled b))
    ∙ both_second (first ++ (requests_polled b).1 ++ acked.1) (forward_polled acked.0)
    ∙ ap (λ (z : List (List ℕ)). first ++ (requests_polled b).1 ++ acked.1 ++ z) (forward_said acked.0)
    ∙ ap (λ (z : List (List ℕ)). first ++ z ++ acked.1 ++ forwards_given acked.0) (requests_said b)
    ∙ ap (λ (z : List (List ℕ)). first ++ requests ++ z ++ forwards_given acked.0) acks
    ∙ ap (λ (s : Sender). first ++ requests ++ acks_given a ++ (if gives_forward s then
    packet_bytes (header_of acked.0.handshake) (chunks.ForwardTsn (forward_of s)) else [])) sender
    ∙ ap (λ (k : Handshake). first ++ requests ++ acks_given a ++ (if gives_forward b.sender then
    packet_bytes (header_of k) (forward_chunk b) else [])) (handshake ∙ same.handshake)
    ∙ ap (λ (k : Handshake). datagrams_of (header_of k) bundles ++ requests_given (header_of k) (requests_sent b)
    ++ acks_given a ++ (if gives_forward b.sender then
    packet_bytes (header_of a.handshake) (forward_chunk b) else [])) same.handshake

pub after_is : (x : Shown × List (List ChunkPayloadData))
    → (forward_after (ack_after (requests_after x))).0
    ≡ (forward_polled (ack_polled (requests_polled x.0).0).0).0
after_is (b, bundles) =
    let first = datagrams_of (header_of b.handshake) bundles in
    let y = requests_polled b in
    ap (λ (z : Shown × List (List ℕ)). z.0) (exchange_behind first y)
    ∙ both_first (first ++ y.1 ++ (ack_polled y.0).1) (forward_polled (ack_polled y.0).0)

poll_of : (x : Shown × List (List ChunkPayloadData)) (xs : List Act) (a : Shown) (h : History)
    (given : List ChunkPayloadData) → IsSentBeside a x.0 → Binds a h → Gives xs (parts a h) (parts x.0 h) given
    → Leads (xs ++ acts_of_ack a ++ acts_of_forwarding (gives_forward x.0.sender)) a h
    (forward_after (ack_after (requests_after x))).0 h
poll_of x xs a h given same binds gives =
    let y = (requests_polled x.0).0 in
    let rest = requests_leave x.0 in
    let gives_still : Gives xs (parts a h) (parts y h) given =
    subst (λ (p : Parts). Gives xs (parts a h) p given) (sym (parts_left x.0 y h rest)) gives in
    let acked = acked_of y xs a h given (beside_requests a x.0 y same rest) binds gives_still in
    let stays : (ack_polled y).0.sender ≡ x.0.sender = (ack_sender y).0 ∙ rest.sender in
    let forward : Leads (acts_of_forwarding (gives_forward x.0.sender)) (ack_polled y).0 h
    (forward_polled (ack_polled y).0).0 h =
    subst (λ (s : Sender). Leads (acts_of_forwarding (gives_forward s)) (ack_polled y).0 h
    (forward_polled (ack_polled y).0).0 h) stays (forwarding_leads (ack_polled y).0 h acked.binds) in
    subst
    (λ (b : Shown). Leads (xs ++ acts_of_ack a ++ acts_of_forwarding (gives_forward x.0.sender)) a h b h)
    (sym (after_is x))
    (leads_on (xs ++ acts_of_ack a) (acts_of_forwarding (gives_forward x.0.sender)) acked forward)

-- what the packets of DATA carry that a poll gives in a state in which DATA is exchanged or not
abbrev bundles_if : Bool → Shown → ℕ → List (List ChunkPayloadData)
bundles_if c a now = if c then (data_polled a now).1 else []

-- and the requests to reset streams behind them, in Established or not
abbrev requests_if : Bool → Shown → ℕ → List ParamOutgoingResetRequest
requests_if c a now = if c then requests_of (data_polled a now).0 else []

abbrev forwards_if : Bool → Shown → ℕ → Bool
forwards_if c a now = c && gives_forward (data_polled a now).0.sender

abbrev acts_if : Bool → Shown → ℕ → List Act
acts_if c a now = if c then acts_of_data_poll a now ++ acts_of_ack a ++ acts_of_forwarding (forwards_if c a now) else []

-- an association that stands on a history polls
module _ (a : Shown) (now : ℕ) (h : History) (binds : Binds a h) where
  polls_if : (c : Bool) → Leads (acts_if c a now) a h (polled_if c a now).0 h
  polls_if true =
      poll_of (data_after a now) (acts_of_data_poll a now) a h (data_of_poll a now) (data_after_stays a now) binds
      (data_poll_gives a now h binds.first binds.marked)
  polls_if false = leads_nowhere a a h binds refl refl

  -- they carry what the acts of the poll give
  joined_if : (c : Bool)
      → all_of (bundles_if c a now) ≡ filter data_fits (all_data_given (acts_if c a now) (parts a h))
  joined_if true =
      data_poll_carries a now
      ∙ ap (filter data_fits) (sym (pieces_said (acts_of_data_poll a now) a
      (gives_forward (data_polled a now).0.sender) (parts a h) (parts (data_polled a now).0 h) (data_of_poll a now)
      (data_poll_gives a now h binds.first binds.marked)))
  joined_if false = refl

  pub exchange_leads : Leads (acts_of_exchange a now) a h (exchange_polled a now).0 h
  unfolding exchange_polled
  exchange_leads = polls_if (exchanges_data a.state)

-- the FORWARD TSN after a poll is that of what is in flight once DATA was selected
forward_of_after : (x : Shown × List (List ChunkPayloadData))
    → forward_chunk (forward_after (ack_after (requests_after x))).0 ≡ forward_chunk x.0
forward_of_after x =
    let y = (requests_polled x.0).0 in
    ap forward_chunk (after_is x) ∙ forward_chunk_stays (ack_polled y).0
    ∙ ap (λ (s : Sender). chunks.ForwardTsn (forward_of s)) ((ack_sender y).0 ∙ (requests_leave x.0).sender)

said_if : (c : Bool) (a : Shown) (now : ℕ)
    → (polled_if c a now).1
    ≡ (if c then datagrams_of (header_of a.handshake) (bundles_if c a now)
    ++ requests_given (header_of a.handshake) (requests_if (is_established a.state) a now) ++ acks_given a
    ++ (if forwards_if c a now then packet_bytes (header_of a.handshake) (forward_chunk (polled_if c a now).0) else [])
    else [])
said_if true a now =
    let header = header_of a.handshake in
    let gives = gives_forward (data_polled a now).0.sender in
    packets_said (data_after a now) a (data_after_stays a now)
    ∙ ap (λ (requests : List ParamOutgoingResetRequest). datagrams_of header (data_polled a now).1
    ++ requests_given header requests ++ acks_given a
    ++ (if gives then packet_bytes header (forward_chunk (data_polled a now).0) else [])) (sent_behind_data a now)
    ∙ ap (λ (z : Chunk). datagrams_of header (data_polled a now).1
    ++ requests_given header (requests_if (is_established a.state) a now) ++ acks_given a
    ++ (if gives then packet_bytes header z else []))
    (sym (forward_of_after (data_after a now)))
said_if false a now = refl

exchange_said : (a : Shown) (now : ℕ)
    → (exchange_polled a now).1
    ≡ exchange_given a (bundles_if (exchanges_data a.state) a now) (requests_if (is_established a.state) a now)
    (forwards_of_poll a now) (exchange_polled a now).0
unfolding exchange_polled
exchange_said a now = said_if (exchanges_data a.state) a now

-- and each is read again
data_again_if : (c : Bool) (a : Shown) (now : ℕ) → c ≡ true
    → AreReadAgain (header_of a.handshake) (data_polled a now).1
    → AreReadAgain (header_of a.handshake) (bundles_if c a now)
data_again_if true a now e again = again
data_again_if false a now e again = absurd (false≢true e)

forward_again_if : (c : Bool) (a : Shown) (now : ℕ)
    → (c ≡ true → ForwardIsReadAgain (ack_polled (data_polled a now).0).0) → forwards_if c a now ≡ true
    → IsReadAgain (header_of a.handshake) (forward_chunk (polled_if c a now).0)
forward_again_if false a now again e = absurd (false≢true e)
forward_again_if true a now again e =
    let b : Shown = (data_polled a now).0 in
    let stays = ack_sender b in
    let due : gives_forward (ack_polled b).0.sender ≡ true = ap gives_forward stays.0 ∙ e in
    let header : header_of (ack_polled b).0.handshake ≡ header_of a.handshake =
    ap header_of (stays.1 ∙ (data_poll_stays a now).handshake) in
    let chunk : forward_chunk (ack_polled b).0
    ≡ forward_chunk (forward_after (ack_after (requests_after (data_after a now)))).0 =
    ap (λ (s : Sender). chunks.ForwardTsn (forward_of s)) stays.0 ∙ sym (forward_of_after (data_after a now)) in
    subst (λ (k : CommonHeader).
    IsReadAgain k (forward_chunk (forward_after (ack_after (requests_after (data_after a now)))).0)) header
    (subst (IsReadAgain (header_of (ack_polled b).0.handshake)) chunk (again refl due))

forward_again : (a : Shown) (now : ℕ) → PollIsReadAgain a now → forwards_of_poll a now ≡ true
    → IsReadAgain (header_of a.handshake) (forward_chunk (exchange_polled a now).0)
unfolding exchange_polled
forward_again a now again e = forward_again_if (exchanges_data a.state) a now (λ c. (again c).2) e

-- the timer of a request to reset streams changes nothing that the directions see
pub beside_timer : (xs : List Act) (a b : Shown) (now : ℕ) (h k : History) → Leads xs a h b k
    → Leads xs a h (with_reconfig_run b now) k
beside_timer xs a b now h k m =
    let rest = reconfig_run_leaves b now in
    leads_beside xs a b (with_reconfig_run b now) h k (parts_left b (with_reconfig_run b now) k rest)
    (ap past_of rest.receiver) m

-- nor do the requests of this side, and what waits beside DATA
pub beside_control : (xs : List Act) (a b c : Shown) (h k : History) (own : OwnView) (control : List Control)
    → c ≡ with_own_control (without_control a) own control → Leads xs c h b k → Leads xs a h b k
beside_control xs a b c h k own control e m =
    let n = subst (λ (z : Shown). Leads xs z h b k) e m in
    record { can = n.can; there = n.there; binds = n.binds }

-- what a poll gives and does rests on none of that
pub acts_apart : (a : Shown) (own : OwnView) (control : List Control) (now : ℕ)
    → acts_of_exchange (with_own_control (without_control a) own control) now ≡ acts_of_exchange a now
unfolding data_polled
acts_apart a own control now = refl

forwards_apart : (a : Shown) (own : OwnView) (control : List Control) (now : ℕ)
    → forwards_of_poll (with_own_control (without_control a) own control) now ≡ forwards_of_poll a now
unfolding data_polled
forwards_apart a own control now = refl

-- an association that stands on a history polls, with these requests of its own and this in front of DATA
module _ (a : Shown) (own : OwnView) (control : List Control) (now : ℕ) (h : History) (given : List (List ℕ))
    (given_is : given ≡ (control_polled a).1) (again : PollIsReadAgain (without_control a) now) (binds : Binds a h)
    (own_is : a.resets.own.queued ≡ [] → own ≡ a.resets.own)
    (own_over : (over : ℕ → Bool) → OwnOver over a.resets.own → OwnOver over own)
  where
    polls_with : (b : Shown) → b ≡ with_own_control (without_control a) own control → PollRequestsReadAgain b now
        → Polls (acts_of_exchange b now) (forwards_of_poll b now) a h (with_reconfig_run (exchange_polled b now).0 now)
        (given ++ (exchange_polled b now).1)
    polls_with b e requests_again =
        let bound : Binds (with_own_control (without_control a) own control) h = record {
          first = binds.first;
          peer_last_tsn = binds.peer_last_tsn;
          held = binds.held;
          marked = binds.marked;
        } in
        let stands : Binds b h = subst (λ (z : Shown). Binds z h) (sym e) bound in
        let same_parts : parts b h ≡ parts a h = ap (λ (z : Shown). parts z h) e in
        let said_again : PollIsReadAgain b now =
        subst (λ (z : Shown). PollIsReadAgain z now) (sym e) (again_with (without_control a) own control now again) in
        let exchanges : exchanges_data b.state ≡ exchanges_data a.state =
        ap (λ (z : Shown). exchanges_data z.state) e in
        let header : header_of b.handshake ≡ header_of a.handshake = ap (λ (z : Shown). header_of z.handshake) e in
        let after = (exchange_polled b now).0 in
        let last = with_reconfig_run after now in
        let chunk : forward_chunk after ≡ forward_chunk last =
        ap (λ (s : Sender). chunks.ForwardTsn (forward_of s)) (sym (reconfig_run_leaves after now).sender) in
        let bundles = bundles_if (exchanges_data b.state) b now in
        let requests = requests_if (is_established b.state) b now in
        let forwards = forwards_of_poll b now in
        record {
          leads =
              beside_control (acts_of_exchange b now) a last b h h own control e
              (beside_timer (acts_of_exchange b now) b after now h h (exchange_leads b now h stands));
          bundles = bundles;
          joined =
              joined_if b now h stands (exchanges_data b.state)
              ∙ ap (λ (p : Parts). filter data_fits (all_data_given (acts_of_exchange b now) p)) same_parts;
          requests = requests;
          quiet = λ asks_nothing.
              none_requested (is_established b.state) b now
              (subst AsksForNothing (sym (ap (λ (z : Shown). z.resets.own) e ∙ own_is asks_nothing.1)) asks_nothing);
          asked = λ over asks_past.
              requested_over over (is_established b.state) b now
              (subst (OwnOver over) (sym (ap (λ (z : Shown). z.resets.own) e)) (own_over over asks_past));
          requests_again =
              subst (λ (k : CommonHeader). AreRequestsReadAgain k requests) header
              (requests_again_if (is_established b.state) b now requests_again);
          ending = [];
          ending_is = tt;
          said =
              ap (λ (z : List (List ℕ)). z ++ (exchange_polled b now).1) given_is
              ∙ ap (λ (z : List (List ℕ)). (control_polled a).1 ++ z)
              (exchange_said b now
              ∙ ap (λ (z : Shown). exchange_given z bundles requests forwards after) e
              ∙ ap (λ (z : Chunk). if exchanges_data a.state then
              datagrams_of (header_of a.handshake) bundles ++ requests_given (header_of a.handshake) requests
              ++ acks_given a ++ (if forwards then packet_bytes (header_of a.handshake) z else []) else []) chunk)
              ∙ sym (append-nil ((control_polled a).1 ++ exchange_given a bundles requests forwards last));
          data_again = λ c.
              subst (λ (k : CommonHeader). AreReadAgain k bundles) header
              (data_again_if (exchanges_data b.state) b now (exchanges ∙ c) (said_again (exchanges ∙ c)).0);
          ack_again = λ c.
              (data_poll_stays (without_control a) now).again (again c).1;
          forward_again = λ c.
              subst (λ (z : Chunk). IsReadAgain (header_of a.handshake) z) chunk
              (subst (λ (k : CommonHeader). IsReadAgain k (forward_chunk after)) header
              (forward_again b now said_again c));
          ending_again = tt;
        }

-- in front of the chunks of a graceful end
open_polls : (a : Shown) (now : ℕ) (h : History) → PollIsReadAgain (without_control a) now
    → PollRequestsReadAgain (control_polled a).0 now → Binds a h
    → Polls (acts_of_exchange a now) (forwards_of_poll a now) a h (open_polled a now).0 (open_polled a now).1
open_polls a now h again requests_again binds =
    let b : Shown = (control_polled a).0 in
    let own = b.resets.own in
    let control = b.control in
    let e = control_changes a in
    let given = (control_polled a).1 in
    let after = exchange_polled b now in
    let acts : acts_of_exchange b now ≡ acts_of_exchange a now =
    ap (λ (z : Shown). acts_of_exchange z now) e ∙ acts_apart a own control now in
    let forwards : forwards_of_poll b now ≡ forwards_of_poll a now =
    ap (λ (z : Shown). forwards_of_poll z now) e ∙ forwards_apart a own control now in
    let here =
    polls_with a own control now h given refl again binds (own_stays a) (λ over w. control_over over a w) b e
    requests_again in
    let first : (open_polled a now).0 ≡ with_reconfig_run after.0 now =
    ap (λ (z : Shown). with_reconfig_run z now) (both_first given after) in
    let second : (open_polled a now).1 ≡ given ++ after.1 = both_second given after in
    subst (λ (c : Shown). Polls (acts_of_exchange a now) (forwards_of_poll a now) a h c (open_polled a now).1)
    (sym first)
    (subst (λ (z : List (List ℕ)). Polls (acts_of_exchange a now) (forwards_of_poll a now) a h
    (with_reconfig_run after.0 now) z) (sym second)
    (subst (λ (f : Bool). Polls (acts_of_exchange a now) f a h (with_reconfig_run after.0 now) (given ++ after.1))
    forwards
    (subst (λ (xs : List Act). Polls xs (forwards_of_poll b now) a h (with_reconfig_run after.0 now)
    (given ++ after.1)) acts here)))

-- all of that leaves the handshake

handshake_if : (c : Bool) (a : Shown) (now : ℕ) → (polled_if c a now).0.handshake ≡ a.handshake
unfolding forward_polled
handshake_if true a now =
    let x = data_after a now in
    ap (λ (z : Shown). z.handshake) (after_is x) ∙ (ack_sender (requests_polled x.0).0).1
    ∙ (requests_leave x.0).handshake ∙ (data_after_stays a now).handshake
handshake_if false a now = refl

exchange_handshake : (a : Shown) (now : ℕ) → (exchange_polled a now).0.handshake ≡ a.handshake
unfolding exchange_polled
exchange_handshake a now = handshake_if (exchanges_data a.state) a now

open_handshake : (a : Shown) (now : ℕ) → (open_polled a now).0.handshake ≡ a.handshake
open_handshake a now =
    let b : Shown = (control_polled a).0 in
    let after = exchange_polled b now in
    ap (λ (z : Shown). (with_reconfig_run z now).handshake) (both_first (control_polled a).1 after)
    ∙ (reconfig_run_leaves after.0 now).handshake ∙ exchange_handshake b now
    ∙ ap (λ (z : Shown). z.handshake) (control_changes a)

polls : (a : Shown) (now : ℕ) (h : History) → PollIsReadAgain (without_control a) now
    → PollRequestsReadAgain (control_polled a).0 now → ShutdownIsReadAgain (open_polled a now).0 → Binds a h
    → Polls (acts_of_poll a now) (forwards_of_poll a now) a h (polled a now).0 (polled a now).1
polls a now h again requests_again ending_again binds =
    let b : Shown = (open_polled a now).0 in
    let packets = (open_polled a now).1 in
    let ending = shutdown_polled b now in
    let here : Polls (acts_of_poll a now) (forwards_of_poll a now) a h ending.0 (packets ++ ending.1) =
    polls_ending (open_polls a now h again requests_again binds) now (open_handshake a now) ending_again in
    subst (λ (c : Shown). Polls (acts_of_poll a now) (forwards_of_poll a now) a h c (polled a now).1)
    (sym (both_first packets ending))
    (subst (λ (z : List (List ℕ)). Polls (acts_of_poll a now) (forwards_of_poll a now) a h ending.0 z)
    (sym (both_second packets ending)) here)

pub polls_on : (a b : Shown) (now : ℕ) (packets : List (List ℕ)) → polled a now ≡ (b, packets)
    → AreControlReadAgain a.control → ControlRequestsReadAgain a → PollIsReadAgain (without_control a) now
    → PollRequestsReadAgain (control_polled a).0 now → ShutdownIsReadAgain (open_polled a now).0
    → PollsOn (acts_of_poll a now) (forwards_of_poll a now) a b packets
polls_on a b now packets e waiting in_front again requests_again ending_again =
    rw (ap (λ (x : Shown × List (List ℕ)). x.0) (sym e), ap (λ (x : Shown × List (List ℕ)). x.1) (sym e))
    (record {
      control_again = waiting;
      control_said = control_is_said a in_front;
      from = λ h binds. polls a now h again requests_again ending_again binds;
    })
