-- The chunks of a packet, its end, and how a fault closes.
use Rattle.std.proofs.Common.{◌≡◌, refl, sym, ◌∙◌, subst, ℕ, Bool, true, false, if◌then◌else◌, Some, None}
use Rattle.std.specs.List.{AllByRecursion}
use Rattle.std.proofs.lemmas.Bool.{cond-false, cond-true, false≢true, true≢false}
use Rattle.sctp_wire_types.specs.declared.chunk.Chunk.{Chunk}
use Rattle.sctp_wire_types.specs.declared.packet.CommonHeader.{CommonHeader}
use Rattle.sctp_wire.specs.declared.packet.Packet.{Packet}
use Rattle.sctp_parts.specs.declared.state.AssociationState.{AssociationState}
use Rattle.sctp_parts.specs.declared.state.AssociationState.TheVariants as states
use Rattle.sctp_streams.specs.declared.event.AssociationError.{AssociationError}
use Rattle.sctp_streams.specs.declared.event.AssociationError.TheVariants as reasons
use Rattle.sctp_streams.specs.Stream.{StreamView}
use Rattle.sctp_inbound.specs.declared.receiver.AckTrigger.{AckTrigger}
use Rattle.sctp_inbound.specs.declared.receiver.AckTrigger.TheVariants as triggers
use Rattle.sctp_parts.specs.State.{is_closing}
use Rattle.sctp_assoc.specs.Calls.{exchanges_data, is_established}
use Rattle.sctp_assoc.specs.Closing.{closed_by, closed_open, is_closed_state}
use Rattle.sctp_assoc.specs.Chunks.{after_packet, after_packet_of, ended, on_chunk}
use Rattle.sctp_sides.specs.SideLaws.{ClosedSidesExchangeNothing}
use Rattle.sctp_sides.specs.SideLaws.{ChunksLeadOn, Closes, EndsPacket, EstablishedIsNotClosed, FaultsClose}
use Rattle.sctp_sides.specs.SideLaws.{LostAssociationsTakeNothing, NoPacketChangesNothing, PacketsEnd, TakesChunk}
use Rattle.sctp_assoc.specs.Shown.{Shown}
use Rattle.sctp_sides.proofs.PacketsByChunks.{chunks_carry}
use Rattle.sctp_inbound.specs.Receiver.{past_of}
use Rattle.sctp_assoc.proofs.CallsLeadOn.{chunk_leads, leads_nowhere}
use Rattle.sctp_sides.proofs.HandshakeChunks.{chunk_greets}
use Rattle.sctp_sides.proofs.Status.{chunk_leaves, status_by}
use Rattle.sctp_sides.proofs.HandshakeTruth.{keeps_saying, truthful_silent}
use Rattle.sctp_assoc.specs.Closing.{exhausted, out_of_resource}
use Rattle.sctp_assoc.specs.Control.{queued}
use Rattle.sctp_assoc.specs.declared.control.Control.TheVariants as controls
use Rattle.sctp_sides.specs.Meeting.{IsTruthful}
use Rattle.sctp_sides.specs.SideLaws.{Exhausts, ExhaustionCloses}
use Rattle.sctp_sides.proofs.HandshakeTruth.{truthful_with}
use Rattle.sctp_inbound.specs.Handshake.{header_of}

pub chunks_lead_on : ChunksLeadOn
chunks_lead_on header c a trigger now = record {
  leads = λ h binds. chunk_leads header c a trigger now h binds;
  leaves = chunk_leaves header c a trigger now;
  greets = chunk_greets header c a trigger now;
}

pub packets_end : PacketsEnd
packets_end a trigger now = record {
  leads = λ h binds. (h, leads_nowhere a (ended a trigger now) h binds refl (last_tsn_stays trigger));
  same = status_by a (ended a trigger now) refl refl refl refl refl refl refl;
}
  where
    last_tsn_stays : (w : AckTrigger) → past_of (ended a w now).receiver ≡ past_of a.receiver
    last_tsn_stays triggers.None = refl
    last_tsn_stays triggers.Delayed = refl
    last_tsn_stays triggers.Immediate = refl

none_some : (t : StreamView) → None ≡ Some t → ⊥
none_some t e = cc

-- an ABORT that waits says nothing of a handshake
aborts_truthfully : (own : ℕ) (a : Shown) → IsTruthful own a → IsTruthful own (queued a out_of_resource)
aborts_truthfully own a t =
    truthful_with own a (queued a out_of_resource)
    (controls.Packet (record { header = header_of a.handshake; chunk = out_of_resource })) t
    (keeps_saying a (queued a out_of_resource) refl refl) refl tt refl

closes_if : (c : Bool) (a : Shown) (reason : AssociationError) → is_closed_state a.state ≡ c
    → Closes a (if c then a else closed_open a reason)
closes_if true a reason e = record {
  failed = refl;
  side = refl;
  handshake = refl;
  truthful = λ own t. t;
  ends = λ f. absurd (true≢false (sym e ∙ f));
  stays = λ f. refl;
}
closes_if false a reason e = record {
  failed = refl;
  side = refl;
  handshake = refl;
  truthful =
      λ own t. truthful_silent own a (closed_open a reason) t (keeps_saying a (closed_open a reason) refl refl) refl;
  ends = λ f. record {
    closed = refl;
    unestablished = refl;
    lost = refl;
    none_live = λ id. refl;
    holds_nothing = λ id t there. absurd (none_some t there);
    silent = refl;
  };
  stays = λ f. absurd (true≢false (sym f ∙ e));
}

pub faults_close : FaultsClose
faults_close a reason = closes_if (is_closed_state a.state) a reason refl

exhausts_if : (c : Bool) (a : Shown) → is_closed_state a.state ≡ c
    → Exhausts a (queued (if c then a else closed_open a reasons.ReceiveBufferExhausted) out_of_resource)
exhausts_if true a e = record {
  failed = refl;
  side = refl;
  handshake = refl;
  truthful = λ own t. aborts_truthfully own a t;
  ends = λ f. absurd (true≢false (sym e ∙ f));
  stays = λ f. (
    λ h binds. (h, leads_nowhere a (queued a out_of_resource) h binds refl refl),
    record {
      failed = refl;
      state = refl;
      lost = refl;
      size = refl;
      side = refl;
      handshake = refl;
      truthful = λ own t. aborts_truthfully own a t;
    },
    refl,
  );
}
exhausts_if false a e =
    let b : Shown = closed_open a reasons.ReceiveBufferExhausted in
    record {
      failed = refl;
      side = refl;
      handshake = refl;
      truthful = λ own t. aborts_truthfully own b (truthful_silent own a b t (keeps_saying a b refl refl) refl);
      ends = λ f. record {
        closed = refl;
        unestablished = refl;
        lost = refl;
        none_live = λ id. refl;
        holds_nothing = λ id t there. absurd (none_some t there);
      };
      stays = λ f. absurd (true≢false (sym f ∙ e));
    }

pub exhaustion_closes : ExhaustionCloses
exhaustion_closes a = exhausts_if (is_closed_state a.state) a refl

not_closed : (s : AssociationState) → is_established s ≡ true → is_closed_state s ≡ false
not_closed states.Closed e = absurd (false≢true e)
not_closed states.CookieWait e = refl
not_closed states.CookieEchoed e = refl
not_closed states.Established e = refl
not_closed states.ShutdownAckSent e = refl
not_closed states.ShutdownPending e = refl
not_closed states.ShutdownReceived e = refl
not_closed states.ShutdownSent e = refl

pub established_is_not_closed : EstablishedIsNotClosed
established_is_not_closed a e = not_closed a.state e

exchanges_nothing : (s : AssociationState) → is_closed_state s ≡ true
    → (exchanges_data s ≡ false) × (is_closing s ≡ false)
exchanges_nothing states.Closed e = (refl, refl)
exchanges_nothing states.CookieWait e = absurd (false≢true e)
exchanges_nothing states.CookieEchoed e = absurd (false≢true e)
exchanges_nothing states.Established e = absurd (false≢true e)
exchanges_nothing states.ShutdownAckSent e = absurd (false≢true e)
exchanges_nothing states.ShutdownPending e = absurd (false≢true e)
exchanges_nothing states.ShutdownReceived e = absurd (false≢true e)
exchanges_nothing states.ShutdownSent e = absurd (false≢true e)

pub closed_sides_exchange_nothing : ClosedSidesExchangeNothing
closed_sides_exchange_nothing a e = exchanges_nothing a.state e

pub lost_associations_take_nothing : LostAssociationsTakeNothing
lost_associations_take_nothing a packet now e = cond-true a.lost a (after_packet_of a packet now) e

nothing_if : (lost : Bool) (a : Shown) → (if lost then a else a) ≡ a
nothing_if true a = refl
nothing_if false a = refl

pub no_packet_changes_nothing : NoPacketChangesNothing
no_packet_changes_nothing a now = nothing_if a.lost a

-- What each chunk of a packet carries on, the packet does: P holds before each chunk, and Q once the packet is over, at
-- its end or where a fault, the end of a shutdown or an exhausted receive buffer closes.
module _ (P Q : Shown → Type 0) (Said : Chunk → Type 0)
    (takes : (header : CommonHeader) (c : Chunk) (a b : Shown) → Said c → TakesChunk header c a b → P a → P b)
    (ends : (a b : Shown) → EndsPacket a b → P a → Q b) (closes : (a b : Shown) → Closes a b → P a → Q b)
    (exhausts : (a b : Shown) → Exhausts a b → P a → Q b) where
  pub packets_carry : (packet : Packet) (a : Shown) (now : ℕ) → a.lost ≡ false → AllByRecursion Said packet.chunks → P a
      → Q (after_packet a (Some packet) now)
  packets_carry packet a now present said h =
      subst Q (sym (cond-false a.lost a (after_packet_of a (Some packet) now) present))
      (chunks_carry P Q Said
      (λ header c b trigger at s p.
      takes header c b (on_chunk b header c trigger at).0 s (chunks_lead_on header c b trigger at) p)
      (λ b trigger at p. ends b (ended b trigger at) (packets_end b trigger at) p)
      (λ b p. closes b (closed_by b reasons.AssociationClosed) (faults_close b reasons.AssociationClosed) p)
      (λ b p. exhausts b (exhausted b) (exhaustion_closes b) p)
      packet.common_header packet.chunks a triggers.None now said h)
