-- A poll gives a SACK that is due, and FORWARD TSN behind it, and the SACK says what came.
use Rattle.std.proofs.Common.{◌≡◌, refl, sym, ap, ◌∙◌, ⊎_elim, ℕ, ◌<◌, ◌≤◌, ◌+◌, ◌-◌, arith, Bool, true, false, ◌&&◌}
use Rattle.std.proofs.Common.{if◌then◌else◌, List, [], ◌∷◌, ◌++◌, ◌*◌, flat_map, length, ◌^◌}
use Rattle.std.proofs.lemmas.Bool.{and_parts, cases_Bool, cases_lt, cond-true}
use Rattle.std.proofs.lemmas.List.{append_assoc}
use Rattle.sctp_wire_types.specs.declared.chunk.Chunk.TheVariants as chunks
use Rattle.sctp_wire_types.specs.declared.chunk.ChunkSelectiveAck.{ChunkSelectiveAck}
use Rattle.sctp_wire_types.specs.declared.chunk.GapAckBlock.{GapAckBlock}
use Rattle.sctp_wire_types.specs.declared.packet.CommonHeader.{CommonHeader}
use Rattle.sctp_wire.specs.Packets.{packet_fits}
use Rattle.sctp_wire.specs.SelectiveAck.{block_bytes}
use Rattle.sctp_wire.specs.DataPackets.{datagrams_of}
use Rattle.sctp_inbound.specs.declared.handshake.Handshake.{Handshake}
use Rattle.sctp_inbound.specs.Handshake.{header_of}
use Rattle.sctp_inbound.specs.Receiver.{sack_of}
use Rattle.sctp_model.specs.Packets.{mem}
use Rattle.sctp_outbound.specs.declared.sender.Sender.{Sender}
use Rattle.sctp_outbound.specs.Forward.{forward_of, gives_forward}
use Rattle.sctp_directions.specs.Acts.{History, reach_in, receiving}
use Rattle.sctp_assoc.specs.Leads.{parts}
use Rattle.sctp_assoc.specs.Calls.{exchanges_data}
use Rattle.sctp_assoc.specs.Gather.{control_polled, data_after, data_polled, forward_chunk, forward_packet}
use Rattle.sctp_assoc.specs.Gather.{open_polled, packet_bytes, polled, sack_chunk, sack_packet, shutdown_polled}
use Rattle.sctp_assoc.specs.Gather.{single_chunk_packet, spelled}
use Rattle.sctp_assoc.specs.Happened.{acks_given, forwards_of_poll, requests_given}
use Rattle.sctp_assoc.specs.Shown.{Shown, all_waiting}
use Rattle.sctp_assoc.proofs.GivenApart.{with_own_control}
use Rattle.sctp_assoc.proofs.RequestsGiven.{requests_sent}
use Rattle.sctp_assoc.proofs.WhatCame.{below_reach, passed_reach, reach_missing}
use Rattle.sctp_received.specs.Received.{gap_ack_blocks, is_held_at}
use Rattle.sctp_received.proofs.GapAckBlocks.{named_exactly}
use Rattle.sctp_fit.proofs.HeldTsns.{blocks_name_what_came}
use Rattle.sctp_sides.specs.Laws.{DueForwardsGoOut, DueSacksGoOut, SacksAreSpelled, SacksNameTheLastTsn}
use Rattle.sctp_sides.specs.Laws.{SacksOfferTheBuffer, SacksSayWhatWasTaken}
use Rattle.sctp_sides.proofs.BlocksWithin.{nothing_named}
use Rattle.sctp_sides.proofs.EndedPolls.{ended_handshake, polled_gives_last}
use Rattle.sctp_sides.proofs.PollsLeave.{after_requests, control_leaves, data_apart, exchange_said, front_gives}
use Rattle.sctp_sides.proofs.PollsLeave.{polled_from, polled_sender}
use Rattle.sctp_sides.proofs.WaitingGoesOut.{fits_written, short_enough}

data_handshake : (a : Shown) (now : ℕ) → (data_after a now).0.handshake ≡ a.handshake
unfolding data_polled
data_handshake a now = refl

run_handshake_if : (runs : Bool) (a b : Shown) → b.handshake ≡ a.handshake
    → (if runs then b else a).handshake ≡ a.handshake
run_handshake_if true a b e = e
run_handshake_if false a b e = refl

polled_handshake : (a : Shown) (now : ℕ) → exchanges_data a.state ≡ true → (polled a now).0.handshake ≡ a.handshake
polled_handshake a now e =
    let p = polled_from a now e in
    ended_handshake a now
    ∙ ap (λ (z : Shown). z.handshake) p.there
    ∙ run_handshake_if _ (after_requests p.asked) _ refl
    ∙ ap (λ (z : Shown). z.handshake) p.requests
    ∙ data_handshake a now

-- the FORWARD TSN of a poll is that of what its DATA left in flight
forward_is_polled : (a : Shown) (now : ℕ) → exchanges_data a.state ≡ true
    → forward_packet (polled a now).0 ≡ packet_bytes (header_of a.handshake) (forward_chunk (data_polled a now).0)
forward_is_polled a now e =
    ap (λ (k : Handshake). packet_bytes (header_of k) (forward_chunk (polled a now).0)) (polled_handshake a now e)
    ∙ ap (λ (s : Sender). packet_bytes (header_of a.handshake) (chunks.ForwardTsn (forward_of s)))
    (polled_sender a now e)

-- the packet of the chunk of a shutdown that a poll gives last, where one is due
abbrev ending_given : Shown → ℕ → List (List ℕ)
ending_given a now = (shutdown_polled (open_polled a now).0 now).1

-- what a poll gives while DATA is exchanged: the acknowledgement where it is due, FORWARD TSN where it is given, and
-- the chunk of a shutdown
record Gives (a : Shown) (now : ℕ) : Type 0 where
  first : List (List ℕ)
  are : (polled a now).1
      ≡ first ++ acks_given a ++ (if forwards_of_poll a now then forward_packet (polled a now).0 else [])
      ++ ending_given a now

forward_if : (c d : Bool) (x y : List (List ℕ)) → d ≡ c → y ≡ x
    → (if d then y else []) ≡ (if c then x else [])
forward_if c d x y e f = rw (e, f) refl

polled_gives : (a : Shown) (now : ℕ) → exchanges_data a.state ≡ true → Gives a now
polled_gives a now e =
    let b = (control_polled a).0 in
    let same = control_leaves a in
    let there : exchanges_data b.state ≡ true = ap (λ (z : Shown). exchanges_data z.state) same ∙ e in
    let control = (control_polled a).1 in
    let pieces : List (List ℕ) = datagrams_of (header_of b.handshake) (data_polled b now).1
    ++ requests_given (header_of b.handshake) (requests_sent (data_after b now).0) in
    let acks : acks_given b ≡ acks_given a = ap acks_given same in
    let forward : List (List ℕ) = if gives_forward (data_polled b now).0.sender then
    packet_bytes (header_of b.handshake) (forward_chunk (data_polled b now).0) else [] in
    let last : List (List ℕ) = if forwards_of_poll a now then forward_packet (polled a now).0 else [] in
    let data_is : (data_after b now).0 ≡ with_own_control (data_after a now).0 b.resets.own b.control =
    ap (λ (z : Shown). (data_after z now).0) same ∙ data_apart a b.resets.own b.control now in
    let due : gives_forward (data_polled b now).0.sender ≡ forwards_of_poll a now =
    ap (λ (z : Shown). gives_forward z.sender) data_is
    ∙ sym (ap (λ (c : Bool). c && gives_forward (data_polled a now).0.sender) e) in
    let header : header_of b.handshake ≡ header_of a.handshake = ap (λ (z : Shown). header_of z.handshake) same in
    let spelled_as : packet_bytes (header_of b.handshake) (forward_chunk (data_polled b now).0)
    ≡ forward_packet (polled a now).0 =
    ap (λ (k : CommonHeader). packet_bytes k (forward_chunk (data_polled b now).0)) header
    ∙ ap (λ (z : Shown). packet_bytes (header_of a.handshake) (forward_chunk z)) data_is
    ∙ sym (forward_is_polled a now e) in
    let forwards : forward ≡ last =
    forward_if (forwards_of_poll a now) (gives_forward (data_polled b now).0.sender) (forward_packet (polled a now).0)
    (packet_bytes (header_of b.handshake) (forward_chunk (data_polled b now).0)) due spelled_as in
    let front : (open_polled a now).1 ≡ (control ++ pieces) ++ acks_given a ++ last =
    front_gives a now
    ∙ ap (λ (z : List (List ℕ)). control ++ z) (exchange_said b now there)
    ∙ ap (λ (z : List (List ℕ)). control ++ (pieces ++ z ++ forward)) acks
    ∙ ap (λ (z : List (List ℕ)). control ++ (pieces ++ acks_given a ++ z)) forwards
    ∙ sym (append_assoc control (pieces ++ acks_given a) last)
    ∙ ap (λ (z : List (List ℕ)). z ++ last) (sym (append_assoc control pieces (acks_given a))) in
    record {
      first = control ++ pieces;
      are = polled_gives_last a now ∙ ap (λ (z : List (List ℕ)). z ++ ending_given a now) front;
    }

pub due_sacks_go_out : DueSacksGoOut
due_sacks_go_out a now exchanges due =
    let g = polled_gives a now exchanges in
    let last : List (List ℕ) = if forwards_of_poll a now then forward_packet (polled a now).0 else [] in
    let given : acks_given a ≡ sack_packet a = rw due refl in
    (g.first, g.are ∙ ap (λ (z : List (List ℕ)). g.first ++ z ++ last ++ ending_given a now) given)

pub due_forwards_go_out : DueForwardsGoOut
due_forwards_go_out a now forwards =
    let exchanges = (and_parts (exchanges_data a.state) (gives_forward (data_polled a now).0.sender) forwards).0 in
    let g = polled_gives a now exchanges in
    let first = g.first ++ acks_given a in (
      first,
      g.are
          ∙ ap (λ (z : List (List ℕ)). first ++ z ++ ending_given a now)
          (cond-true (forwards_of_poll a now) (forward_packet (polled a now).0) [] forwards),
    )

-- What a SACK says.

-- what came lies less than 65,535 past the reach
none_above : (h : History) → ((o : ℕ) → mem o h.taken ≡ true → o < reach_in h + 65535) → (o : ℕ)
    → reach_in h + 65535 ≤ o → mem o h.taken ≡ false
none_above h below o far = ⊎_elim
    (λ (m : mem o h.taken ≡ true). absurd (omega (arith, below o m, far)))
    (λ (n : mem o h.taken ≡ false). n)
    (cases_Bool (mem o h.taken))

pub sacks_name_the_last_tsn : SacksNameTheLastTsn
sacks_name_the_last_tsn a h binds = (
  record {
    before = below_reach h;
    missing = reach_missing h;
    passed = passed_reach h;
  },
  binds.peer_last_tsn,
)

pub sacks_say_what_was_taken : SacksSayWhatWasTaken
sacks_say_what_was_taken a h binds = record {
  at = binds.peer_last_tsn;
  set = λ o some. ⊎_elim
      (λ (l : o < 2 ^ 16).
      blocks_name_what_came (receiving (parts a h)) a.receiver.held
      (gap_ack_blocks a.receiver.peer_last_tsn a.receiver.held) binds.held
      (λ x from below. named_exactly a.receiver.peer_last_tsn x a.receiver.held from below
      ∙ ap (λ p. is_held_at p x a.receiver.held) binds.peer_last_tsn) o some l)
      (λ (g : 2 ^ 16 ≤ o).
      nothing_named a.receiver.peer_last_tsn a.receiver.held o (omega (arith, g))
      ∙ sym (none_above h binds.held.below (reach_in h + o - 1) (omega (arith, g))))
      (cases_lt o (2 ^ 16));
}

pub sacks_offer_the_buffer : SacksOfferTheBuffer
sacks_offer_the_buffer a = (sack_of a.receiver (all_waiting a), refl, refl)

blocks_length : (bs : List GapAckBlock) → length (flat_map block_bytes bs ++ []) ≡ 4 * length bs
blocks_length [] = refl
blocks_length (b ∷ bs) = let rest = blocks_length bs in omega (arith, rest)

sack_fits : (header : CommonHeader) (sack : ChunkSelectiveAck) → sack.duplicate_tsn ≡ []
    → length sack.gap_ack_blocks ≤ 16379
    → packet_fits (single_chunk_packet header (chunks.SelectiveAck sack)) ≡ true
sack_fits header sack once few =
    rw once (let e = blocks_length sack.gap_ack_blocks in short_enough _ (omega (arith, e, few)))

pub sacks_are_spelled : SacksAreSpelled
unfolding packet_bytes
sacks_are_spelled a few =
    ap spelled (fits_written (single_chunk_packet (header_of a.handshake) (sack_chunk a))
    (sack_fits (header_of a.handshake) (sack_of a.receiver (all_waiting a)) refl few))
