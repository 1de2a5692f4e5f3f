use Rattle.std.proofs.Common.{rules, ◌≡◌, ◌∙◌, ap, ◌∷◌}
use Rattle.std.proofs.lemmas.Result.{on_err_weaker, on_ok_weaker}
use Rattle.std.specs.Vec.Iter.{into_iter_items}
use Rattle.sctp_assoc.specs.declared.inbound.Flow.{Flow}
use Rattle.sctp_assoc.specs.Chunks.{after_chunks}
use Rattle.sctp_assoc.proofs.PacketEnds.{chunk_first, end_takes, ends_alike}
use Rattle.sctp_assoc.proofs.MemoryTaken.{first_takes, flow_takes, later_takes}
use Rattle.sctp_outbound.proofs.SenderSteps.{on_err}
use Rattle.sctp_assoc.proofs.association.Association.on_chunks.Goals as goal

pub loop-chunk-preserved : goal.loop-chunk-preserved
loop-chunk-preserved c =
    let items : into_iter_items c.loop-chunk.chunk-iterator ≡ c.in-Some.chunk ∷ into_iter_items c.next.new.self =
    search rules in
    let said = c.in_ok-flow.ensures.exact ∙ ap (λ (z : Flow). (c.on_chunk.new.self, z)) c.in-Next.is in
    record {
      same = search rules;
      grows =
          λ takes. c.loop-chunk.invariant.grows
          (rw items (later_takes c.args.header c.in-Some.chunk (into_iter_items c.next.new.self) c.loop-chunk.self
          c.loop-chunk.trigger c.args.now c.on_chunk.new.self c.in-Next.next said takes));
    }

pub returns-in_err-flow-clause-grows : goal.returns-in_err-flow-clause-grows
returns-in_err-flow-clause-grows c =
    let items : into_iter_items c.loop-chunk.chunk-iterator ≡ c.in-Some.chunk ∷ into_iter_items c.next.new.self =
    search rules in
    on_err c.from_residual.result (c.loop-chunk.invariant.grows
    (rw items (first_takes c.args.header c.in-Some.chunk (into_iter_items c.next.new.self)
    c.loop-chunk.self c.loop-chunk.trigger c.args.now c.in_err-flow.ensures.grows)))

pub returns-in_default : goal.returns-in_default
returns-in_default c =
    let items : into_iter_items c.loop-chunk.chunk-iterator ≡ c.in-Some.chunk ∷ into_iter_items c.next.new.self =
    search rules in
    record {
      exact = on_ok_weaker c.end_packet.result
          (λ ended. ended
          ∙ ends_alike c.on_chunk.new.self c.in_ok-flow.flow _
          (λ b next. after_chunks c.args.header (into_iter_items c.next.new.self) b next c.args.now)
          c.in_default.not-Next
          ∙ chunk_first c.args.header c.in-Some.chunk (into_iter_items c.next.new.self) c.loop-chunk.self
          c.loop-chunk.trigger c.args.now c.on_chunk.new.self c.in_ok-flow.flow c.in_ok-flow.ensures.exact
          ∙ (rw items at c.loop-chunk.invariant.same))
          c.end_packet.ensures.exact;
      grows = on_err_weaker c.end_packet.result
          (λ takes. c.loop-chunk.invariant.grows
          (rw items (flow_takes c.args.header c.in-Some.chunk (into_iter_items c.next.new.self) c.loop-chunk.self
          c.loop-chunk.trigger c.args.now c.on_chunk.new.self c.in_ok-flow.flow c.in_ok-flow.ensures.exact
          (end_takes c.on_chunk.new.self c.in_ok-flow.flow _ takes))))
          c.end_packet.ensures.grows;
    }
