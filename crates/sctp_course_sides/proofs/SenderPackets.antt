-- A packet that comes leaves what a side sends of a stream its course, unless it closes the association.
use Rattle.std.proofs.Common.{◌≡◌, refl, sym, ap, ◌∙◌, subst, ℕ, ◌<◌, ◌^◌, Bool, true, false, if◌then◌else◌, length}
use Rattle.std.proofs.Common.{List, [], ◌∷◌, ◌++◌, Option, Some, None}
use Rattle.std.specs.List.{AllByRecursion}
use Rattle.std.specs.Prelude.{⊤}
use Rattle.sctp_wire_types.specs.declared.chunk.Chunk.{Chunk}
use Rattle.sctp_wire_types.specs.declared.packet.CommonHeader.{CommonHeader}
use Rattle.sctp_wire.specs.declared.packet.Packet.{Packet}
use Rattle.sctp_streams.specs.declared.event.AssociationError.TheVariants as reasons
use Rattle.sctp_inbound.specs.declared.receiver.AckTrigger.{AckTrigger}
use Rattle.sctp_inbound.specs.declared.receiver.AckTrigger.TheVariants as triggers
use Rattle.sctp_directions.specs.Acts.{Act, CanAll, History, Parts, done, done_all}
use Rattle.sctp_courses.specs.Course.{Course}
use Rattle.sctp_courses.specs.Invariants.{Invariant}
use Rattle.sctp_assoc.specs.declared.inbound.Flow.{Flow}
use Rattle.sctp_assoc.specs.declared.inbound.Flow.TheVariants as flows
use Rattle.sctp_assoc.specs.Chunks.{after_chunks, after_packet, after_packet_of, ended, goes_on, on_chunk}
use Rattle.sctp_assoc.specs.Closing.{closed_by, exhausted, is_closed_state}
use Rattle.sctp_assoc.specs.Happened.{acts_after, acts_of_chunk, acts_of_chunks, acts_of_close, acts_of_packet}
use Rattle.sctp_assoc.specs.Happened.{acts_of_packet_of}
use Rattle.sctp_assoc.specs.Leads.{Binds, Leads, parts}
use Rattle.sctp_assoc.specs.Shown.{Shown}
use Rattle.sctp_assoc.proofs.ActsKeepOffsets.{done_append}
use Rattle.sctp_assoc.proofs.CallsLeadOn.{chunk_leads}
use Rattle.sctp_course_sides.specs.Honest.{BringsHonest, IsHonest}
use Rattle.sctp_course_sides.specs.Sends.{Sends}
use Rattle.sctp_course_sides.proofs.SenderCalls.{closed_sends, exhausted_sends}
use Rattle.sctp_course_sides.proofs.SenderChunks.{chunk_keeps_sending}
use Rattle.sctp_course_sides.proofs.SenderParts.{sends_by_asks}

can_behind : (xs ys : List Act) (p : Parts) → CanAll (xs ++ ys) p → CanAll ys (done_all xs p)
can_behind [] ys p can = can
can_behind (x ∷ xs) ys p (can, cans) = can_behind xs ys (done x p) cans

-- what leads on behind the first acts
rest_leads : (xs ys : List Act) (a b d : Shown) (h l k : History) → Leads xs a h b l → Leads (xs ++ ys) a h d k
    → Leads ys b l d k
rest_leads xs ys a b d h l k first all = record {
  can = subst (λ (p : Parts). CanAll ys p) (sym first.there) (can_behind xs ys (parts a h) all.can);
  there =
      all.there ∙ done_append xs ys (parts a h) ∙ ap (λ (p : Parts). done_all ys p) (sym first.there);
  binds = all.binds;
}

-- a close leaves what is past
past_of_close : (closed : Bool) (p : Parts)
    → (done_all (if closed then [] else Act.Ended ∷ []) p).history ≡ p.history
past_of_close true p = refl
past_of_close false p = refl

close_past : (a b : Shown) (h k : History) → Leads (acts_of_close a) a h b k → k ≡ h
close_past a b h k leads =
    ap (λ (p : Parts). p.history) leads.there ∙ past_of_close (is_closed_state a.state) (parts a h)

module _ (initial id : ℕ) (c : Course) where
  -- on another history that is the same
  at_same : (a : Shown) (h k : History) → k ≡ h → Sends initial id a h c → Sends initial id a k c
  at_same a h k e s = subst (λ (z : History). Sends initial id a z c) (sym e) s

  ended_sends : (a : Shown) (trigger : AckTrigger) (now : ℕ) (h : History) → Sends initial id a h c
      → Sends initial id (ended a trigger now) h c
  ended_sends a trigger now h s = sends_by_asks initial id c a (ended a trigger now) h refl (λ x. x) s

  -- what follows a chunk keeps the course, where the rest of the packet does
  flow_sends : (x : Shown × Flow) (h k : History) (more : Shown → AckTrigger → Shown)
      (acts : Shown → AckTrigger → List Act)
      → ((b : Shown) (trigger : AckTrigger) → Binds b h → Leads (acts b trigger) b h (more b trigger) k
      → (more b trigger).lost ≡ false → Sends initial id b h c → Sends initial id (more b trigger) k c)
      → Binds x.0 h → Leads (acts_after x acts) x.0 h (goes_on x more) k → (goes_on x more).lost ≡ false
      → Sends initial id x.0 h c → Sends initial id (goes_on x more) k c
  flow_sends (b, flows.Next trigger) h k more acts on binds leads open_still s = on b trigger binds leads open_still s
  flow_sends (b, flows.Fault fault) h k more acts on binds leads open_still s =
      at_same (closed_by b reasons.AssociationClosed) h k (close_past b _ h k leads)
      (closed_sends initial id h c b reasons.AssociationClosed open_still s)
  flow_sends (b, flows.Closed) h k more acts on binds leads open_still s =
      at_same (closed_by b reasons.AssociationClosed) h k (close_past b _ h k leads)
      (closed_sends initial id h c b reasons.AssociationClosed open_still s)
  flow_sends (b, flows.Exhausted) h k more acts on binds leads open_still s =
      at_same (exhausted b) h k (close_past b _ h k leads) (exhausted_sends initial id h c b open_still s)

  module _ (kept : Invariant c) (few : length c.asked < 2 ^ 31) (header : CommonHeader) where
    chunks_send : (cs : List Chunk) (a : Shown) (trigger : AckTrigger) (now : ℕ) (h k : History)
        → AllByRecursion (λ (chunk : Chunk). IsHonest initial c chunk) cs → Binds a h
        → Leads (acts_of_chunks header cs a trigger now) a h (after_chunks header cs a trigger now) k
        → (after_chunks header cs a trigger now).lost ≡ false
        → Sends initial id a h c → Sends initial id (after_chunks header cs a trigger now) k c
    chunks_send [] a trigger now h k honest binds leads open_still s =
        at_same (ended a trigger now) h k (ap (λ (p : Parts). p.history) leads.there) (ended_sends a trigger now h s)
    chunks_send (chunk ∷ cs) a trigger now h k ((says, some), honest) binds leads open_still s =
        let x = on_chunk a header chunk trigger now in
        let one = chunk_leads header chunk a trigger now h binds in
        let more : Shown → AckTrigger → Shown = λ b next. after_chunks header cs b next now in
        let acts : Shown → AckTrigger → List Act = λ b next. acts_of_chunks header cs b next now in
        flow_sends x one.0 k more acts
        (λ b next bound on still t. chunks_send cs b next now one.0 k honest bound on still t)
        one.1.binds
        (rest_leads (acts_of_chunk a header chunk) (acts_after x acts) a x.0 (goes_on x more) h one.0 k one.1 leads)
        open_still
        (chunk_keeps_sending initial id a header chunk trigger now h one.0 c kept few says some one.1 s)

  -- What a side sends of a stream stays its course over each packet that comes.
  module _ (kept : Invariant c) (few : length c.asked < 2 ^ 31) where
    packet_of_sends : (packet : Option Packet) (a : Shown) (now : ℕ) (h k : History) → BringsHonest initial c packet
        → Binds a h → Leads (acts_of_packet_of a packet now) a h (after_packet_of a packet now) k
        → (after_packet_of a packet now).lost ≡ false
        → Sends initial id a h c → Sends initial id (after_packet_of a packet now) k c
    packet_of_sends None a now h k honest binds leads open_still s =
        at_same a h k (ap (λ (p : Parts). p.history) leads.there) s
    packet_of_sends (Some packet) a now h k honest binds leads open_still s =
        chunks_send kept few packet.common_header packet.chunks a triggers.None now h k honest binds leads open_still s

    packet_if : (lost : Bool) (packet : Option Packet) (a : Shown) (now : ℕ) (h k : History)
        → BringsHonest initial c packet → Binds a h
        → Leads (if lost then [] else acts_of_packet_of a packet now) a h
        (if lost then a else after_packet_of a packet now) k
        → (if lost then a else after_packet_of a packet now).lost ≡ false
        → Sends initial id a h c → Sends initial id (if lost then a else after_packet_of a packet now) k c
    packet_if true packet a now h k honest binds leads open_still s =
        at_same a h k (ap (λ (p : Parts). p.history) leads.there) s
    packet_if false packet a now h k honest binds leads open_still s =
        packet_of_sends packet a now h k honest binds leads open_still s

    pub packet_keeps_sending : (packet : Option Packet) (a : Shown) (now : ℕ) (h k : History)
        → BringsHonest initial c packet → Binds a h
        → Leads (acts_of_packet a packet now) a h (after_packet a packet now) k
        → (after_packet a packet now).lost ≡ false
        → Sends initial id a h c → Sends initial id (after_packet a packet now) k c
    packet_keeps_sending packet a now h k honest binds leads open_still s =
        packet_if a.lost packet a now h k honest binds leads open_still s
