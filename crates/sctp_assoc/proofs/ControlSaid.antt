-- What a poll gives in front of DATA: packets that waited, and requests to reset streams that this side asked for.
use Rattle.std.proofs.Common.{◌≡◌, refl, ◌∙◌, subst, inl, inr, ℕ, zero, suc, Bool, fold, slice_get}
use Rattle.std.proofs.Common.{List, [], ◌∷◌, Option, Some, None, Result, Ok, Err}
use Rattle.std.specs.List.{AllByRecursion}
use Rattle.sctp_wire_types.specs.declared.chunk.Chunk.{Chunk}
use Rattle.sctp_wire_types.specs.declared.error.Fault.{Fault}
use Rattle.sctp_wire_types.specs.declared.packet.CommonHeader.{CommonHeader}
use Rattle.sctp_wire_types.specs.declared.param.Param.TheVariants as params
use Rattle.sctp_wire_types.specs.declared.param.ParamOutgoingResetRequest.{ParamOutgoingResetRequest}
use Rattle.sctp_wire.specs.Packets.{packet_at, written}
use Rattle.sctp_inbound.specs.declared.handshake.Handshake.{Handshake}
use Rattle.sctp_inbound.specs.Handshake.{header_of}
use Rattle.sctp_reset_requests.specs.Own.{OwnView, sent_first}
use Rattle.sctp_resets.specs.Resets.{with_own}
use Rattle.sctp_resets.specs.Within.{OwnOver, ParamOverIf}
use Rattle.sctp_resets.proofs.ListsOver.{all_appended}
use Rattle.sctp_resets.proofs.OwnOver.{sent_first_over}
use Rattle.sctp_assoc.specs.declared.control.Control.{Control}
use Rattle.sctp_assoc.specs.declared.control.Control.TheVariants as controls
use Rattle.sctp_assoc.specs.Gather.{AreRequestsReadAgain, ControlRequestsReadAgain, GivenRequestReadAgain}
use Rattle.sctp_assoc.specs.Gather.{GivenRequestsReadAgain, control_polled, listed, packet_bytes, request_packet}
use Rattle.sctp_assoc.specs.Gather.{single_chunk_packet, spelled, with_control_given, with_request_placed}
use Rattle.sctp_assoc.specs.Gather.{without_control}
use Rattle.sctp_assoc.specs.Happened.{IsOfControl}
use Rattle.sctp_assoc.specs.Resets.{reconfig_of}
use Rattle.sctp_assoc.specs.Shown.{Shown}
use Rattle.sctp_assoc.proofs.RequestsOver.{given_over}

-- what holds of a packet of one chunk, where it is spelled, holds of all that is given of it
all_spelled : (P : List ℕ → Type 0) (r : Result (List ℕ) Fault)
    → ((bytes : List ℕ) → spelled r ≡ bytes ∷ [] → P bytes) → AllByRecursion P (spelled r)
all_spelled P (Ok bytes) one = (one bytes refl, tt)
all_spelled P (Err fault) one = tt

packet_said : (P : List ℕ → Type 0) (header : CommonHeader) (chunk : Chunk)
    → ((bytes : List ℕ) → packet_bytes header chunk ≡ bytes ∷ [] → P bytes)
    → AllByRecursion P (packet_bytes header chunk)
unfolding packet_bytes
packet_said P header chunk one = all_spelled P (written (single_chunk_packet header chunk)) one

placed_header : (b : Shown) (packets : List (List ℕ)) (own : OwnView) (request : Option ParamOutgoingResetRequest)
    → (with_request_placed (b, packets) (with_own b.resets (own, request))).0.handshake ≡ b.handshake
placed_header b packets own None = refl
placed_header b packets own (Some request) = refl

-- giving changes nothing of the handshake
given_header : (x : Shown × List (List ℕ)) (c : Control) → (with_control_given x c).0.handshake ≡ x.0.handshake
given_header (b, packets) (controls.Packet c) = refl
given_header (b, packets) controls.OwnRequest =
    let sent = sent_first b.resets.own b.sender.queue in
    placed_header b packets sent.0 sent.1

-- The association that is polled.
module _ (a : Shown) where
  -- what stays of it while what waited is given
  record StaysBeside (b : Shown) : Type 0 where
    pub handshake : b.handshake ≡ a.handshake
    pub own : (over : ℕ → Bool) → OwnOver over a.resets.own → OwnOver over b.resets.own

  stays_given : (x : Shown × List (List ℕ)) (c : Control) → StaysBeside x.0 → StaysBeside (with_control_given x c).0
  stays_given x c stays = record {
    handshake = given_header x c ∙ stays.handshake;
    own = λ over w. given_over over x c (stays.own over w);
  }

  placed_said : (b : Shown) (packets : List (List ℕ)) (own : OwnView) (request : Option ParamOutgoingResetRequest)
      → StaysBeside b → ((over : ℕ → Bool) → OwnOver over a.resets.own → ParamOverIf over request)
      → AreRequestsReadAgain (header_of b.handshake) (listed request) → AllByRecursion (IsOfControl a) packets
      → AllByRecursion (IsOfControl a) (with_request_placed (b, packets) (with_own b.resets (own, request))).1
  placed_said b packets own None stays past again said = said
  placed_said b packets own (Some request) stays past again said =
      all_appended (IsOfControl a) packets (request_packet b request) said
      (packet_said (IsOfControl a) (header_of b.handshake) chunk one)
    where
      chunk : Chunk
      chunk = reconfig_of (params.OutgoingResetRequest request)

      one : (bytes : List ℕ) → packet_bytes (header_of b.handshake) chunk ≡ bytes ∷ [] → IsOfControl a bytes
      one bytes e =
          inr (
            request,
            subst (λ (k : Handshake). packet_at bytes ≡ Ok (single_chunk_packet (header_of k) chunk)) stays.handshake
                (again.0 bytes e),
            past,
          )

  -- each of these waited
  abbrev Waited : List Control → Type 0
  Waited cs =
      (k : ℕ) (c : Control) → slice_get cs k ≡ Some c → (j : ℕ) × (slice_get a.control j ≡ Some c)

  one_said : (x : Shown × List (List ℕ)) (c : Control) → StaysBeside x.0
      → (j : ℕ) × (slice_get a.control j ≡ Some c) → GivenRequestReadAgain x.0 c → AllByRecursion (IsOfControl a) x.1
      → AllByRecursion (IsOfControl a) (with_control_given x c).1
  one_said (b, packets) (controls.Packet c) stays waited again said =
      all_appended (IsOfControl a) packets (packet_bytes c.header c.chunk) said
      (packet_said (IsOfControl a) c.header c.chunk (λ bytes e. inl (waited.0, c, waited.1, e)))
  one_said (b, packets) controls.OwnRequest stays waited again said =
      let sent = sent_first b.resets.own b.sender.queue in
      placed_said b packets sent.0 sent.1 stays
      (λ over w. (sent_first_over over b.resets.own b.sender.queue (stays.own over w)).1) again said

  all_said : (cs : List Control) (x : Shown × List (List ℕ)) → StaysBeside x.0 → Waited cs
      → GivenRequestsReadAgain cs x → AllByRecursion (IsOfControl a) x.1
      → AllByRecursion (IsOfControl a) (fold with_control_given x cs).1
  all_said [] x stays waited again said = said
  all_said (c ∷ cs) x stays waited again said =
      all_said cs (with_control_given x c) (stays_given x c stays) (λ k d e. waited (suc k) d e) again.1
      (one_said x c stays (waited zero c refl) again.0 said)

  pub control_is_said : ControlRequestsReadAgain a → AllByRecursion (IsOfControl a) (control_polled a).1
  control_is_said again =
      all_said a.control (without_control a, []) (record { handshake = refl; own = λ over w. w })
      (λ k c e. (k, e)) again tt
