-- A packet that the other side gave out leads the courses of a stream on, where the two talk.
use Rattle.std.proofs.Common.{◌≡◌, refl, sym, ◌∙◌, inl, ℕ, Bool, true, false, [], Option, Some, None}
use Rattle.std.proofs.lemmas.Bool.{true≢false}
use Rattle.sctp_wire_types.specs.declared.chunk.Chunk.{Chunk}
use Rattle.sctp_wire_types.specs.declared.chunk.ChunkPayloadData.{ChunkPayloadData}
use Rattle.sctp_wire.specs.declared.packet.Packet.{Packet}
use Rattle.sctp_model.proofs.Lists.{all_weaker}
use Rattle.sctp_courses.specs.Course.{Course}
use Rattle.sctp_courses.specs.Invariants.{Invariant}
use Rattle.sctp_reset_fit.proofs.Keeping.{goes_nowhere}
use Rattle.sctp_assoc.specs.Chunks.{after_packet}
use Rattle.sctp_assoc.specs.Shown.{Shown}
use Rattle.sctp_assoc.proofs.CallsLeadOn.{packet_leads}
use Rattle.sctp_sides.specs.Brought.{IsOnly}
use Rattle.sctp_sides.specs.Meeting.{IsDoneAmongClients, MayHear, Stage}
use Rattle.sctp_sides.specs.SideLaws.{OfEachChunk}
use Rattle.sctp_course_sides.specs.Honest.{BringsHonest, IsHonest}
use Rattle.sctp_course_sides.proofs.BesideInChunks.{packet_stays_beside}
use Rattle.sctp_course_sides.proofs.SenderPackets.{packet_keeps_sending}
use Rattle.sctp_course_sides.proofs.SentOn.{sends_nothing}
use Rattle.sctp_course_sides.proofs.StageChunks.{stays_put}
use Rattle.sctp_course_sides.proofs.TalkingChunks.{ComesTruly, TalksOn, packet_talks}
use Rattle.sctp_boundaries.specs.Between.{IsSaid, StandsAt}
use Rattle.sctp_boundaries.proofs.Leading.{SideTalks}
use Rattle.sctp_boundaries.proofs.Led.{grows_none, moves_nothing}

-- a chunk that the other side said, and P is so of its DATA
abbrev pub IsBroughtTruly : (ChunkPayloadData → Type 0) → ℕ → ℕ → ℕ → Stage → Course → Course → Chunk → Type 0
IsBroughtTruly P own peer id t out coming chunk = IsSaid peer own id t coming out chunk × IsOnly P chunk

module _ (P : ChunkPayloadData → Type 0) (own peer id : ℕ) (t : Stage) (out coming : Course) where
  comes_truly : (packet : Option Packet) → OfEachChunk (IsBroughtTruly P own peer id t out coming) packet
      → OfEachChunk (ComesTruly P peer id t coming) packet
  comes_truly None all = tt
  comes_truly (Some packet) all =
      all_weaker (IsBroughtTruly P own peer id t out coming) (ComesTruly P peer id t coming) packet.chunks
      (λ chunk said. (said.0.0, said.0.2, said.1)) all

  comes_honestly : (packet : Option Packet) → OfEachChunk (IsBroughtTruly P own peer id t out coming) packet
      → BringsHonest own out packet
  comes_honestly None all = tt
  comes_honestly (Some packet) all =
      all_weaker (IsBroughtTruly P own peer id t out coming) (IsHonest own out) packet.chunks
      (λ chunk said. said.0.1) all

module _ (P : ChunkPayloadData → Type 0) (own peer id : ℕ) (t s : Stage) (x : Shown) (out coming : Course)
    (kept : Invariant out) (one : IsDoneAmongClients s t) (hears : MayHear s)
    (st : StandsAt P own peer id s x out coming)
  where
    -- Its own course stays as it is.
    pub packets_talk : (packet : Option Packet) (now : ℕ) → OfEachChunk (IsBroughtTruly P own peer id t out coming)
        packet
        → SideTalks P own peer id s x out coming false None (after_packet x packet now) []
    packets_talk packet now brings = by (after_packet x packet now).lost refl
      where
        by : (lost : Bool) → (after_packet x packet now).lost ≡ lost
            → SideTalks P own peer id s x out coming false None (after_packet x packet now) []
        by true e = record {
          moves = moves_nothing P own peer id false x None (after_packet x packet now) out coming refl;
          stage = s;
          later = stays_put s;
          stands = λ few less present. absurd (true≢false (sym e ∙ present.not_lost));
          said = tt;
        }
        by false e =
            let k : TalksOn P own peer id t s coming (after_packet x packet now) =
            packet_talks P own peer id t s coming one hears packet x now
            (comes_truly P own peer id t out coming packet brings) (record {
              stage = record { after = s; goes = stays_put s; completes = λ d. inl d; at = st.at };
              after = coming;
              goes = goes_nowhere coming;
              told = refl;
              past = st.came;
              follows = st.follows;
              answers = st.answers;
            }) e in
            let l = packet_leads packet x now st.sent st.sent_binds in
            record {
              moves = record {
                out_after = out;
                coming_after = k.after;
                sends = sends_nothing out;
                seen = grows_none false x (after_packet x packet now) out out refl refl;
                goes = k.goes;
                grows = k.told;
              };
              stage = k.stage.after;
              later = k.stage.goes;
              stands = λ few less present. record {
                at = k.stage.at;
                sent = l.0;
                sent_binds = l.1.binds;
                sends =
                    packet_keeps_sending own id out kept few.requests packet x now st.sent l.0
                    (comes_honestly P own peer id t out coming packet brings) st.sent_binds l.1 present.not_lost
                    st.sends;
                came = k.past;
                follows = k.follows;
                answers = k.answers;
                beside = packet_stays_beside packet x now st.beside;
              };
              said = tt;
            }
