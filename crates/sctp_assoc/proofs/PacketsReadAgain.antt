-- The packets of a poll are read as the chunks that they were made of.
use Rattle.std.proofs.Common.{◌≡◌, refl, sym, ap, ◌∙◌, subst, map, true, List, [], ◌∷◌, ◌++◌, ℕ, Result, Ok, Err}
use Rattle.std.proofs.lemmas.List.{append_assoc}
use Rattle.sctp_wire_types.specs.declared.chunk.Chunk.{Chunk}
use Rattle.sctp_wire_types.specs.declared.chunk.ChunkPayloadData.{ChunkPayloadData}
use Rattle.sctp_wire_types.specs.declared.error.Fault.{Fault}
use Rattle.sctp_wire_types.specs.declared.packet.CommonHeader.{CommonHeader}
use Rattle.sctp_wire.specs.Packets.{packet_at, packet_is_plain, written}
use Rattle.sctp_inbound.specs.Handshake.{header_of}
use Rattle.sctp_wire.specs.DataPackets.{DataWritten, closed, datagrams_of, nothing_written, with_all}
use Rattle.sctp_wire.proofs.DataCarried.{header_stays}
use Rattle.sctp_assoc.specs.declared.control.Control.{Control}
use Rattle.sctp_assoc.specs.Gather.{AckIsReadAgain, AreControlReadAgain, AreReadAgain, ControlReadAgain}
use Rattle.sctp_assoc.specs.Gather.{ExchangeIsReadAgain, ForwardIsReadAgain, IsReadAgain, ack_after, ack_polled}
use Rattle.sctp_assoc.specs.Gather.{after_both, bundled, data_after, data_polled, fast_polled, fast_sent}
use Rattle.sctp_assoc.specs.Gather.{forward_after, forward_polled, late_abandoned, marks_polled, marks_sent}
use Rattle.sctp_assoc.specs.Gather.{new_polled, new_sent}
use Rattle.sctp_assoc.specs.Gather.{requests_after, requests_polled}
use Rattle.sctp_assoc.specs.Gather.{fell_in_poll, packet_bytes, single_chunk_packet, spelled, with_low_told}
use Rattle.sctp_streams.specs.declared.event.Event.{Event}
use Rattle.sctp_streams.specs.LowMarks.{low_event}
use Rattle.sctp_assoc.specs.Shown.{Shown}
use Rattle.sctp_assoc.specs.Shutdown.{shutdown_continued}
use Rattle.sctp_assoc.proofs.ContinuedShutdown.{continued_leaves}
use Rattle.sctp_assoc.proofs.PartsOfPolls.{LeavesTheRest, ack_sender, after_ack, after_forward, behind_both}
use Rattle.sctp_assoc.proofs.PartsOfPolls.{both_first, both_second, left_on, requests_leave}

one_spelled : (r : Result (List ℕ) Fault) (given bytes : List ℕ) → r ≡ Ok given → spelled r ≡ bytes ∷ [] → bytes ≡ given
one_spelled (Ok x) given bytes e f = cc
one_spelled (Err x) given bytes e f = absurd cc

pub read_again : (header : CommonHeader) (chunk : Chunk) (given : List ℕ)
    → written (single_chunk_packet header chunk) ≡ Ok given
    → (packet_is_plain (single_chunk_packet header chunk) ≡ true
    → packet_at given ≡ Ok (single_chunk_packet header chunk))
    → packet_is_plain (single_chunk_packet header chunk) ≡ true → IsReadAgain header chunk
unfolding packet_bytes
read_again header chunk given e again plain bytes f =
    rw (one_spelled (written (single_chunk_packet header chunk)) given bytes e f) (again plain)

-- what the acknowledgement leaves
module _ (before : List (List ℕ)) {x b d : Shown} {packets : List (List ℕ)} (left : x ≡ b)
    (acks : after_both before (ack_polled b) ≡ (d, packets))
  where
    pub acked_as : (ack_polled x).0 ≡ d
    acked_as =
        ap (λ (z : Shown). (ack_polled z).0) left ∙ sym (both_first before (ack_polled b))
        ∙ ap (λ (z : Shown × List (List ℕ)). z.0) acks

-- what the requests to reset streams leave
module _ (before : List (List ℕ)) {x b c : Shown} {packets : List (List ℕ)} (left : x ≡ b)
    (requests : after_both before (requests_polled b) ≡ (c, packets))
  where
    pub asked_as : (requests_polled x).0 ≡ c
    asked_as =
        ap (λ (z : Shown). (requests_polled z).0) left ∙ sym (both_first before (requests_polled b))
        ∙ ap (λ (z : Shown × List (List ℕ)). z.0) requests

pub ack_again_before : (b c : Shown) → LeavesTheRest b c → AckIsReadAgain c → AckIsReadAgain b
ack_again_before b c rest again = rw (← rest.receiver, ← rest.handshake, ← rest.streams, ← rest.generations) again

pub forward_again_as : (x y : Shown) → x.sender ≡ y.sender → x.handshake ≡ y.handshake → ForwardIsReadAgain x
    → ForwardIsReadAgain y
forward_again_as x y sender handshake again = rw (← sender, ← handshake) again

-- what DATA leaves, and a shutdown that goes on behind it
pub continued_as : (a : Shown) (now : ℕ) {b c : Shown} → (data_polled a now).0 ≡ b → c ≡ shutdown_continued b
    → (data_after a now).0 ≡ c
continued_as a now left continued = ap shutdown_continued left ∙ sym continued

-- what the parts of a poll leave, one behind another
module _ (a : Shown) (now : ℕ) (before asked : List (List ℕ)) {b c d : Shown} {acked : List (List ℕ)}
    (left : (data_after a now).0 ≡ b)
    (requests : after_both before (requests_polled b) ≡ (c, asked))
    (acks : after_both asked (ack_polled c) ≡ (d, acked))
  where
    pub poll_again : AreReadAgain (header_of a.handshake) (data_polled a now).1 → AckIsReadAgain c
        → ForwardIsReadAgain d → ExchangeIsReadAgain a now
    poll_again data_again ack_again forward_again =
        let x = (data_polled a now).0 in
        let behind = (data_after a now).0 in
        let y = (requests_polled behind).0 in
        let rest = left_on x behind y (continued_leaves x) (requests_leave behind) in
        let there : y ≡ c = asked_as before left requests in (
          data_again,
          ack_again_before x y rest (subst AckIsReadAgain (sym there) ack_again),
          forward_again_as (ack_polled y).0 (ack_polled x).0
              ((ack_sender y).0 ∙ rest.sender ∙ sym (ack_sender x).0)
              ((ack_sender y).1 ∙ rest.handshake ∙ sym (ack_sender x).1)
              (subst ForwardIsReadAgain (sym (acked_as asked there acks)) forward_again),
        )

-- one more of what waits is read again
pub more_control_again : (cs : List Control) (c : Control) → AreControlReadAgain cs → ControlReadAgain c
    → AreControlReadAgain (cs ++ c ∷ [])
more_control_again [] c all more = (more, tt)
more_control_again (x ∷ xs) c (first, all) more = (first, more_control_again xs c all more)

-- what the parts of a poll bundle, each behind the packets that the one before it left
module _ (a : Shown) (now : ℕ) {late marked again : Shown} (is_late : late ≡ late_abandoned a now)
    (is_marked : marked ≡ marks_polled a now) (is_again : again ≡ fast_polled a now)
  where
    pub bundled_as : {first second third out : DataWritten}
        → first ≡ nothing_written (header_of a.handshake) (late_abandoned a now).sender.mtu
        → second ≡ bundled first (marks_sent late) → third ≡ bundled second (fast_sent marked)
        → out ≡ with_all third (new_sent again now)
        → out ≡ with_all (bundled (bundled (nothing_written (header_of a.handshake) (late_abandoned a now).sender.mtu)
        (marks_sent (late_abandoned a now))) (fast_sent (marks_polled a now))) (new_sent (fast_polled a now) now)
    bundled_as begun marks missing new = new ∙ rw (missing, marks, begun, is_again, is_marked, is_late) refl

-- what a poll of DATA leaves, once it told of the streams that fell to their low mark
pub data_left : (a b : Shown) (now : ℕ) (events : List Event) → b ≡ new_polled a now
    → events ≡ b.events ++ map low_event (fell_in_poll a now)
    → (data_polled a now).0 ≡ record b { events = events }
unfolding data_polled
data_left a b now events e f =
    ap (with_low_told (fell_in_poll a now)) (sym e) ∙ ap (λ (z : List Event). record b { events = z }) (sym f)

-- what a poll bundles is finished under its own common header
pub finished_as : (a : Shown) (now : ℕ) (w : DataWritten)
    → w ≡ with_all (bundled (bundled (nothing_written (header_of a.handshake) (late_abandoned a now).sender.mtu)
    (marks_sent (late_abandoned a now))) (fast_sent (marks_polled a now))) (new_sent (fast_polled a now) now)
    → (w.header ≡ header_of a.handshake) × ((closed w).done ≡ (data_polled a now).1)
unfolding data_polled
finished_as a now w e =
    let first = nothing_written (header_of a.handshake) (late_abandoned a now).sender.mtu in
    let again = with_all first (marks_sent (late_abandoned a now)) in
    let missing = with_all (closed again) (fast_sent (marks_polled a now)) in (
      ap (λ (z : DataWritten). z.header) e
          ∙ header_stays (closed missing) (new_sent (fast_polled a now) now)
          ∙ header_stays (closed again) (fast_sent (marks_polled a now))
          ∙ header_stays first (marks_sent (late_abandoned a now)),
      ap (λ (z : DataWritten). (closed z).done) e,
    )

-- packets behind packets, requests to reset streams behind them, the acknowledgement behind those, and FORWARD TSN
module _ (before : List (List ℕ)) {header : CommonHeader} {mid more asked acked packets : List (List ℕ)}
    {c d e : Shown} where
  pub exact_of : (x : Shown × List (List ChunkPayloadData)) → header_of x.0.handshake ≡ header
      → more ≡ datagrams_of header x.1 → mid ≡ before ++ more → after_both mid (requests_polled x.0) ≡ (c, asked)
      → after_both asked (ack_polled c) ≡ (d, acked) → after_both acked (forward_polled d) ≡ (e, packets)
      → after_both before (forward_after (ack_after (requests_after x))) ≡ (e, packets)
  exact_of (b, bundles) h f g requests acks forwards =
      let first = datagrams_of (header_of b.handshake) bundles in
      let y = requests_polled b in
      let z = ack_polled y.0 in
      let more_is : more ≡ first = f ∙ ap (λ (k : CommonHeader). datagrams_of k bundles) (sym h) in
      let mid_is : mid ≡ before ++ first = g ∙ ap (λ (w : List (List ℕ)). before ++ w) more_is in
      let there : y.0 ≡ c = sym (both_first mid y) ∙ ap (λ (w : Shown × List (List ℕ)). w.0) requests in
      let given : before ++ (first ++ y.1) ≡ asked =
      sym (append_assoc before first y.1)
      ∙ ap (λ (w : List (List ℕ)). w ++ y.1) (sym mid_is)
      ∙ sym (both_second mid y) ∙ ap (λ (w : Shown × List (List ℕ)). w.1) requests in
      let acks_here : after_both asked z ≡ (d, acked) =
      ap (λ (w : Shown). after_both asked (ack_polled w)) there ∙ acks in
      let acked_there : z.0 ≡ d = sym (both_first asked z) ∙ ap (λ (w : Shown × List (List ℕ)). w.0) acks_here in
      let acked_given : before ++ ((first ++ y.1) ++ z.1) ≡ acked =
      sym (append_assoc before (first ++ y.1) z.1)
      ∙ ap (λ (w : List (List ℕ)). w ++ z.1) given
      ∙ sym (both_second asked z) ∙ ap (λ (w : Shown × List (List ℕ)). w.1) acks_here in
      ap (λ (w : Shown × List (List ℕ)). after_both before (forward_after w)) (after_ack first y)
      ∙ ap (after_both before) (after_forward (first ++ y.1) z)
      ∙ behind_both before ((first ++ y.1) ++ z.1) (forward_polled z.0)
      ∙ ap (λ (w : List (List ℕ)). after_both w (forward_polled z.0)) acked_given
      ∙ ap (λ (w : Shown). after_both acked (forward_polled w)) acked_there
      ∙ forwards
