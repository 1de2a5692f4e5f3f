-- What is so of each association on the way of a run.
use Rattle.std.proofs.Common.{sym, subst, ℕ, Bool, true, false, List, [], ◌∷◌, Option, Some, None}
use Rattle.sctp_wire_types.specs.declared.chunk.Chunk.{Chunk}
use Rattle.sctp_wire_types.specs.declared.packet.CommonHeader.{CommonHeader}
use Rattle.sctp_wire.specs.declared.packet.Packet.{Packet}
use Rattle.sctp_streams.specs.declared.event.Event.{Event}
use Rattle.sctp_inbound.specs.declared.receiver.AckTrigger.{AckTrigger}
use Rattle.sctp_inbound.specs.declared.receiver.AckTrigger.TheVariants as triggers
use Rattle.sctp_assoc.specs.declared.inbound.Flow.{Flow}
use Rattle.sctp_assoc.specs.declared.inbound.Flow.TheVariants as flows
use Rattle.sctp_assoc.specs.Chunks.{on_chunk}
use Rattle.sctp_assoc.specs.Shown.{Shown}
use Rattle.sctp_sides.specs.OneSide.{Call, IsRun}
use Rattle.sctp_ended.specs.Boundaries.{GoesOn, HoldsThroughChunks, HoldsThroughPacket, HoldsThroughWhatCame}
use Rattle.sctp_ended.specs.Boundaries.{HoldsWhereThere, IsRunThrough, between_params, came_with}

-- what is so of each association on the way is so of the last one
pub last_is_so : (Holds : Shown → Type 0) (calls : List Call) (told : List Event) (a b : Shown) → Holds a
    → IsRunThrough Holds calls told a b → Holds b
last_is_so Holds [] told a b first run = subst Holds (sym run.same) first
last_is_so Holds (call ∷ calls) told a b first run =
    let others = run.others in last_is_so Holds calls run.later run.middle b others.1 others.2

-- What is always so is so of each one.
module _ (Holds : Shown → Type 0) (always : (a : Shown) → Holds a) where
  there_always : (o : Option Shown) → HoldsWhereThere Holds o
  there_always None = tt
  there_always (Some a) = always a

  goes_always : (x : Shown × Flow) (More : Shown → AckTrigger → Type 0)
      → ((b : Shown) (next : AckTrigger) → More b next) → GoesOn x More
  goes_always (b, flows.Next trigger) More more = more b trigger
  goes_always (b, flows.Fault fault) More more = tt
  goes_always (b, flows.Closed) More more = tt
  goes_always (b, flows.Exhausted) More more = tt

  chunks_always : (header : CommonHeader) (cs : List Chunk) (a : Shown) (trigger : AckTrigger) (now : ℕ)
      → HoldsThroughChunks Holds header cs a trigger now
  chunks_always header [] a trigger now = tt
  chunks_always header (c ∷ cs) a trigger now = (
    there_always (between_params c a),
    goes_always (on_chunk a header c trigger now) (λ b next. Holds b × HoldsThroughChunks Holds header cs b next now)
        (λ b next. (always b, chunks_always header cs b next now)),
  )

  packet_always : (lost : Bool) (packet : Option Packet) (a : Shown) (now : ℕ)
      → HoldsThroughPacket Holds lost packet a now
  packet_always true packet a now = tt
  packet_always false None a now = tt
  packet_always false (Some packet) a now =
      chunks_always packet.common_header packet.chunks a triggers.None now

  came_always : (o : Option (Option Packet × ℕ)) (a : Shown) → HoldsThroughWhatCame Holds o a
  came_always None a = tt
  came_always (Some (packet, now)) a = packet_always a.lost packet a now

  pub runs_through : (calls : List Call) (told : List Event) (a b : Shown) → IsRun calls told a b
      → IsRunThrough Holds calls told a b
  runs_through [] told a b run = run
  runs_through (call ∷ calls) told a b run = record {
    middle = run.middle;
    first = run.first;
    later = run.later;
    called = run.called;
    others = (
      (λ left. came_always (came_with call) a),
      always run.middle,
      runs_through calls run.later run.middle b run.others,
    );
    in_order = run.in_order;
  }
