-- How a packet ends behind one of its chunks: a fault, the end of a shutdown or an exhausted receive buffer ends it,
-- whatever chunks follow.
use Rattle.std.proofs.Common.{◌≡◌, refl, sym, ap, ℕ, Bool, true, false, List, ◌∷◌}
use Rattle.std.proofs.lemmas.Bool.{false≢true}
use Rattle.sctp_wire_types.specs.declared.chunk.Chunk.{Chunk}
use Rattle.sctp_wire_types.specs.declared.packet.CommonHeader.{CommonHeader}
use Rattle.sctp_inbound.specs.declared.receiver.AckTrigger.{AckTrigger}
use Rattle.sctp_assoc.specs.declared.inbound.Flow.{Flow}
use Rattle.sctp_assoc.specs.declared.inbound.Flow.TheVariants as flows
use Rattle.sctp_assoc.specs.Chunks.{after_chunks, goes_on, on_chunk}
use Rattle.sctp_assoc.specs.Memory.{takes_memory_after}
use Rattle.sctp_assoc.specs.Shown.{Shown}

-- where no next chunk is looked at, it does not matter what would follow
pub ends_alike : (a : Shown) (flow : Flow) (f g : Shown → AckTrigger → Shown)
    → ((trigger : AckTrigger) → flow ≡ flows.Next trigger → ⊥) → goes_on (a, flow) f ≡ goes_on (a, flow) g
ends_alike a (flows.Next trigger) f g stops = absurd (stops trigger refl)
ends_alike a (flows.Fault fault) f g stops = refl
ends_alike a flows.Closed f g stops = refl
ends_alike a flows.Exhausted f g stops = refl

-- what is taken where a packet ends is taken there whatever would follow
pub end_takes : (a : Shown) (flow : Flow) (more : Shown → AckTrigger → Bool)
    → takes_memory_after (a, flow) (λ b next. false) ≡ true → takes_memory_after (a, flow) more ≡ true
end_takes a (flows.Next trigger) more takes = absurd (false≢true takes)
end_takes a (flows.Fault fault) more takes = takes
end_takes a flows.Closed more takes = takes
end_takes a flows.Exhausted more takes = takes

-- the chunks of a packet go on from what the first one leaves
pub chunk_first : (header : CommonHeader) (c : Chunk) (cs : List Chunk) (a : Shown) (trigger : AckTrigger) (now : ℕ)
    (b : Shown) (flow : Flow) → on_chunk a header c trigger now ≡ (b, flow)
    → goes_on (b, flow) (λ d next. after_chunks header cs d next now) ≡ after_chunks header (c ∷ cs) a trigger now
chunk_first header c cs a trigger now b flow e =
    ap (λ (z : Shown × Flow). goes_on z (λ d next. after_chunks header cs d next now)) (sym e)
