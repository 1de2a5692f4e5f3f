-- What each chunk of a packet keeps the packet keeps, unless the side is lost.
use Rattle.std.proofs.Common.{◌≡◌, refl, sym, ◌∙◌, ℕ, Bool, true, false, if◌then◌else◌, List, [], ◌∷◌}
use Rattle.std.proofs.Common.{Option, Some, None}
use Rattle.std.specs.List.{AllByRecursion}
use Rattle.std.proofs.lemmas.Bool.{true≢false}
use Rattle.sctp_wire_types.specs.declared.chunk.Chunk.{Chunk}
use Rattle.sctp_wire_types.specs.declared.packet.CommonHeader.{CommonHeader}
use Rattle.sctp_wire.specs.declared.packet.Packet.{Packet}
use Rattle.sctp_streams.specs.declared.event.AssociationError.{AssociationError}
use Rattle.sctp_streams.specs.declared.event.AssociationError.TheVariants as reasons
use Rattle.sctp_inbound.specs.declared.receiver.AckTrigger.{AckTrigger}
use Rattle.sctp_inbound.specs.declared.receiver.AckTrigger.TheVariants as triggers
use Rattle.sctp_assoc.specs.declared.inbound.Flow.{Flow}
use Rattle.sctp_assoc.specs.declared.inbound.Flow.TheVariants as flows
use Rattle.sctp_assoc.specs.Chunks.{after_chunks, after_packet, after_packet_of, ended, goes_on, on_chunk}
use Rattle.sctp_assoc.specs.Closing.{closed_open, exhausted, is_closed_state}
use Rattle.sctp_assoc.specs.Shown.{Shown}
use Rattle.sctp_sides.specs.SideLaws.{OfEachChunk}
use Rattle.sctp_course_sides.proofs.BecomesOver.{exhausted_over}

-- Each such chunk keeps it, whatever comes in front of it in its packet, and so does the end of a packet.
pub record KeptByChunks (Holds : Shown → Type 0) (Is : Chunk → Type 0) : Type 0 where
  pub chunk : (header : CommonHeader) (c : Chunk) (a : Shown) (trigger : AckTrigger) (now : ℕ) → Is c → Holds a
      → Holds (on_chunk a header c trigger now).0
  pub exhausting : (a : Shown) → is_closed_state a.state ≡ true → Holds a → Holds (exhausted a)
  pub ending : (a : Shown) (trigger : AckTrigger) (now : ℕ) → Holds a → Holds (ended a trigger now)

module _ (Holds : Shown → Type 0) (Is : Chunk → Type 0) where
  module _ (kept : KeptByChunks Holds Is) where
    closed_holds : (closed : Bool) (a : Shown) (reason : AssociationError) → Holds a
        → (if closed then a else closed_open a reason).lost ≡ false → Holds (if closed then a else closed_open a reason)
    closed_holds true a reason h lost = h
    closed_holds false a reason h lost = absurd (true≢false lost)

    exhausted_holds : (closed : Bool) (a : Shown) → is_closed_state a.state ≡ closed → Holds a
        → (exhausted a).lost ≡ false → Holds (exhausted a)
    exhausted_holds true a e h lost = kept.exhausting a e h
    exhausted_holds false a e h lost = absurd (true≢false (sym (exhausted_over a e).lost ∙ lost))

    flow_holds : (x : Shown × Flow) (more : Shown → AckTrigger → Shown) → Holds x.0
        → ((trigger : AckTrigger) → (more x.0 trigger).lost ≡ false → Holds (more x.0 trigger))
        → (goes_on x more).lost ≡ false → Holds (goes_on x more)
    flow_holds (a, flows.Next trigger) more h on lost = on trigger lost
    flow_holds (a, flows.Fault fault) more h on lost =
        closed_holds (is_closed_state a.state) a reasons.AssociationClosed h lost
    flow_holds (a, flows.Closed) more h on lost =
        closed_holds (is_closed_state a.state) a reasons.AssociationClosed h lost
    flow_holds (a, flows.Exhausted) more h on lost = exhausted_holds (is_closed_state a.state) a refl h lost

    chunks_hold : (header : CommonHeader) (cs : List Chunk) (a : Shown) (trigger : AckTrigger) (now : ℕ)
        → AllByRecursion Is cs → Holds a → (after_chunks header cs a trigger now).lost ≡ false
        → Holds (after_chunks header cs a trigger now)
    chunks_hold header [] a trigger now all h lost = kept.ending a trigger now h
    chunks_hold header (c ∷ cs) a trigger now (one, all) h lost =
        let x = on_chunk a header c trigger now in
        let held : Holds x.0 = kept.chunk header c a trigger now one h in
        flow_holds x (λ b next. after_chunks header cs b next now) held
        (λ next still. chunks_hold header cs x.0 next now all held still) lost

    packet_of_holds : (packet : Option Packet) (a : Shown) (now : ℕ) → OfEachChunk Is packet → Holds a
        → (after_packet_of a packet now).lost ≡ false → Holds (after_packet_of a packet now)
    packet_of_holds None a now all h lost = h
    packet_of_holds (Some packet) a now all h lost =
        chunks_hold packet.common_header packet.chunks a triggers.None now all h lost

    packet_if : (lost : Bool) (packet : Option Packet) (a : Shown) (now : ℕ) → OfEachChunk Is packet → Holds a
        → (if lost then a else after_packet_of a packet now).lost ≡ false
        → Holds (if lost then a else after_packet_of a packet now)
    packet_if true packet a now all h lost = h
    packet_if false packet a now all h lost = packet_of_holds packet a now all h lost

    pub packet_holds : (packet : Option Packet) (a : Shown) (now : ℕ) → OfEachChunk Is packet → Holds a
        → (after_packet a packet now).lost ≡ false → Holds (after_packet a packet now)
    packet_holds packet a now all h lost = packet_if a.lost packet a now all h lost
