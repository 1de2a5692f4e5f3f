-- What each chunk of a packet carries on, the packet does.
use Rattle.std.proofs.Common.{ℕ, List, [], ◌∷◌}
use Rattle.std.specs.List.{AllByRecursion}
use Rattle.sctp_wire_types.specs.declared.chunk.Chunk.{Chunk}
use Rattle.sctp_wire_types.specs.declared.packet.CommonHeader.{CommonHeader}
use Rattle.sctp_streams.specs.declared.event.AssociationError.TheVariants as reasons
use Rattle.sctp_inbound.specs.declared.receiver.AckTrigger.{AckTrigger}
use Rattle.sctp_assoc.specs.declared.inbound.Flow.{Flow}
use Rattle.sctp_assoc.specs.declared.inbound.Flow.TheVariants as flows
use Rattle.sctp_assoc.specs.Closing.{closed_by, exhausted}
use Rattle.sctp_assoc.specs.Chunks.{after_chunks, ended, goes_on, on_chunk}
use Rattle.sctp_assoc.specs.Shown.{Shown}

-- P holds before each chunk, and Q once the packet is over: at its end, or where a fault, the end of a shutdown or an
-- exhausted receive buffer closes the association
module _ (P Q : Shown → Type 0) (Said : Chunk → Type 0)
    (step : (header : CommonHeader) (c : Chunk) (a : Shown) (trigger : AckTrigger) (now : ℕ) → Said c → P a
    → P (on_chunk a header c trigger now).0)
    (ends : (a : Shown) (trigger : AckTrigger) (now : ℕ) → P a → Q (ended a trigger now))
    (closes : (a : Shown) → P a → Q (closed_by a reasons.AssociationClosed))
    (exhausts : (a : Shown) → P a → Q (exhausted a)) where
  goes_carry : (x : Shown × Flow) (more : Shown → AckTrigger → Shown) → P x.0
      → ((b : Shown) (next : AckTrigger) → P b → Q (more b next)) → Q (goes_on x more)
  goes_carry (b, flows.Next trigger) more h on = on b trigger h
  goes_carry (b, flows.Fault fault) more h on = closes b h
  goes_carry (b, flows.Closed) more h on = closes b h
  goes_carry (b, flows.Exhausted) more h on = exhausts b h

  pub chunks_carry : (header : CommonHeader) (cs : List Chunk) (a : Shown) (trigger : AckTrigger) (now : ℕ)
      → AllByRecursion Said cs
      → P a → Q (after_chunks header cs a trigger now)
  chunks_carry header [] a trigger now all h = ends a trigger now h
  chunks_carry header (c ∷ cs) a trigger now (said, all) h =
      goes_carry (on_chunk a header c trigger now) (λ b next. after_chunks header cs b next now)
      (step header c a trigger now said h)
      (λ b next k.
      chunks_carry header cs b next now all k)
