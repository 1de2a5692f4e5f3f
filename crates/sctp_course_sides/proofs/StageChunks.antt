-- How far the stage of a side goes by a chunk of its peer.
use Rattle.std.proofs.Common.{◌≡◌, refl, sym, ap, ◌∙◌, subst, ◌⊎◌, inl, inr, ℕ, true}
use Rattle.sctp_wire_types.specs.declared.chunk.Chunk.{Chunk}
use Rattle.sctp_wire_types.specs.declared.chunk.Chunk.TheVariants as chunks
use Rattle.sctp_wire_types.specs.declared.packet.CommonHeader.{CommonHeader}
use Rattle.sctp_inbound.specs.declared.receiver.AckTrigger.{AckTrigger}
use Rattle.sctp_assoc.specs.Chunks.{ended, on_chunk}
use Rattle.sctp_assoc.specs.Shown.{Shown}
use Rattle.sctp_sides.specs.Meeting.{Greets, IsDoneAmongClients, IsNoEarlier, MayHear, Stage, stage_of}
use Rattle.sctp_sides.specs.SideLaws.{IsSameStatus, KeepsTheStage, TakesChunk}
use Rattle.sctp_sides.proofs.Proved.{chunks_lead_on, packets_end, the_same_status_is_the_same_stage}
use Rattle.sctp_course_sides.specs.Meets.{IsAtStage, SpeaksOfStage}
use Rattle.sctp_course_sides.proofs.StageCalls.{stays_at}

pub stays_put : (s : Stage) → IsNoEarlier s s
stays_put s = record { side = refl; knows = λ k. k; completed = λ d. d }

pub goes_through : (s t u : Stage) → IsNoEarlier s t → IsNoEarlier t u → IsNoEarlier s u
goes_through s t u g h = record {
  side = h.side ∙ g.side;
  knows = λ k. h.knows (g.knows k);
  completed = λ d. h.completed (g.completed d);
}

-- The side is at a later stage, or the same one. Where that establishes it, its DATA may come to a peer in the stage t.
pub record GoesToStage (own : ℕ) (t s : Stage) (b : Shown) : Type 0 where
  pub after : Stage
  pub goes : IsNoEarlier s after
  pub completes : after.completed ≡ true → (s.completed ≡ true) ⊎ MayHear t
  pub at : IsAtStage own after b

module _ (own : ℕ) (t s : Stage) where
  kept_stage : (a b : Shown) → KeepsTheStage a b → IsAtStage own s a → GoesToStage own t s b
  kept_stage a b k at = record {
    after = s;
    goes = stays_put s;
    completes = λ d. inl d;
    at = stays_at own s a b k at;
  }

  same_status : (a b : Shown) → IsSameStatus a b → IsAtStage own s a → GoesToStage own t s b
  same_status a b same at = kept_stage a b (the_same_status_is_the_same_stage a b same) at

  module _ (peer : ℕ) (header : CommonHeader) (one : IsDoneAmongClients s t) where
    greeted_stage : (chunk : Chunk) (a b : Shown) → TakesChunk header chunk a b → Greets peer t chunk
        → IsAtStage own s a → GoesToStage own t s b
    greeted_stage chunk a b takes said at =
        let one_of : IsDoneAmongClients (stage_of a) t =
        subst (λ (z : Stage). IsDoneAmongClients z t) (sym at.stage) one in
        let g = takes.greets own peer t said one_of at.truthful at.come in
        record {
          after = stage_of b;
          goes = subst (λ (z : Stage). IsNoEarlier z (stage_of b)) at.stage g.goes;
          completes =
              subst (λ (z : Stage). b.handshake.completed ≡ true → (z.completed ≡ true) ⊎ MayHear t) at.stage
              g.completes;
          at = record { stage = refl; come = g.come; truthful = g.truthful };
        }

    kind_of_stage : (chunk : Chunk) (a b : Shown) → TakesChunk header chunk a b → SpeaksOfStage peer t chunk
        → IsAtStage own s a → GoesToStage own t s b
    kind_of_stage (chunks.Data x) a b takes said at = same_status a b takes.leaves at
    kind_of_stage (chunks.SelectiveAck x) a b takes said at = kept_stage a b takes.leaves at
    kind_of_stage (chunks.ForwardTsn x) a b takes said at = same_status a b takes.leaves at
    kind_of_stage (chunks.IForwardTsn x) a b takes said at = same_status a b takes.leaves at
    kind_of_stage (chunks.Reconfig x) a b takes said at = same_status a b takes.leaves at
    kind_of_stage (chunks.Init x) a b takes said at = greeted_stage (chunks.Init x) a b takes said at
    kind_of_stage (chunks.InitAck x) a b takes said at = greeted_stage (chunks.InitAck x) a b takes said at
    kind_of_stage (chunks.CookieEcho x) a b takes said at = greeted_stage (chunks.CookieEcho x) a b takes said at
    kind_of_stage chunks.CookieAck a b takes said at = greeted_stage chunks.CookieAck a b takes said at
    kind_of_stage (chunks.Abort x) a b takes said at = greeted_stage (chunks.Abort x) a b takes said at
    kind_of_stage (chunks.Error x) a b takes said at = greeted_stage (chunks.Error x) a b takes said at
    kind_of_stage (chunks.Shutdown x) a b takes said at = greeted_stage (chunks.Shutdown x) a b takes said at
    kind_of_stage chunks.ShutdownAck a b takes said at = greeted_stage chunks.ShutdownAck a b takes said at
    kind_of_stage chunks.ShutdownComplete a b takes said at = greeted_stage chunks.ShutdownComplete a b takes said at
    kind_of_stage (chunks.Heartbeat x) a b takes said at = absurd said
    kind_of_stage (chunks.HeartbeatAck x) a b takes said at = absurd said
    kind_of_stage (chunks.Other kind flags value) a b takes said at = absurd said

    -- Any chunk whose word of the peer's handshake is so.
    pub chunk_goes_to_stage : (chunk : Chunk) (a : Shown) (trigger : AckTrigger) (now : ℕ)
        → SpeaksOfStage peer t chunk → IsAtStage own s a → GoesToStage own t s (on_chunk a header chunk trigger now).0
    chunk_goes_to_stage chunk a trigger now said at =
        kind_of_stage chunk a (on_chunk a header chunk trigger now).0 (chunks_lead_on header chunk a trigger now) said
        at

-- the end of a packet leaves the stage
pub end_stays_at : (own : ℕ) (s : Stage) (a : Shown) (trigger : AckTrigger) (now : ℕ) → IsAtStage own s a
    → IsAtStage own s (ended a trigger now)
end_stays_at own s a trigger now at =
    stays_at own s a (ended a trigger now)
    (the_same_status_is_the_same_stage a (ended a trigger now) (packets_end a trigger now).same) at
