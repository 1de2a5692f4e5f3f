-- What a side that talks to its peer takes of the peer's packets: DATA and all that belongs to it, and greetings that
-- come late.
use Rattle.std.proofs.Common.{◌≡◌, refl, sym, ap, ◌∙◌, subst, ◌⊎◌, ⊎_elim, inl, inr, ℕ, Bool, true, false, is_some}
use Rattle.std.proofs.Common.{Option, Some, None}
use Rattle.std.proofs.lemmas.Bool.{cases_Bool, false≢true, true≢false}
use Rattle.sctp_wire_types.specs.declared.chunk.Chunk.{Chunk}
use Rattle.sctp_wire_types.specs.declared.chunk.Chunk.TheVariants as chunks
use Rattle.sctp_wire_types.specs.declared.chunk.ChunkPayloadData.{ChunkPayloadData}
use Rattle.sctp_wire_types.specs.declared.ids.Side.TheVariants as sides
use Rattle.sctp_wire_types.specs.declared.packet.CommonHeader.{CommonHeader}
use Rattle.sctp_wire.specs.declared.packet.Packet.{Packet}
use Rattle.sctp_parts.specs.declared.state.AssociationState.{AssociationState}
use Rattle.sctp_parts.specs.declared.state.AssociationState.TheVariants as states
use Rattle.sctp_inbound.specs.declared.receiver.AckTrigger.{AckTrigger}
use Rattle.sctp_inbound.specs.declared.receiver.AckTrigger.TheVariants as triggers
use Rattle.sctp_courses.specs.Course.{Course}
use Rattle.sctp_reset_fit.specs.Keeping.{GoesOn}
use Rattle.sctp_reset_fit.proofs.Keeping.{goes_leaves, goes_nowhere, goes_on}
use Rattle.sctp_directions.specs.Acts.{History}
use Rattle.sctp_assoc.specs.Calls.{is_beginning, is_cookie_wait}
use Rattle.sctp_assoc.specs.Chunks.{after_packet, ended, on_chunk}
use Rattle.sctp_assoc.specs.Closing.{exhausted, is_closed_state}
use Rattle.sctp_assoc.specs.Shown.{Shown}
use Rattle.sctp_sides.specs.Brought.{IsOnly}
use Rattle.sctp_sides.specs.Meeting.{HasCome, IsDoneAmongClients, MayHear, Stage, stage_of}
use Rattle.sctp_sides.specs.SideLaws.{OfEachChunk}
use Rattle.sctp_sides.proofs.Proved.{packets_end}
use Rattle.sctp_course_sides.specs.Answers.{AnswersTruly}
use Rattle.sctp_course_sides.specs.Following.{IsNoGreeting, LeadsFollowing}
use Rattle.sctp_course_sides.specs.Follows.{ChunkComes, Follows}
use Rattle.sctp_course_sides.specs.Meets.{IsAtStage, SpeaksOfStage}
use Rattle.sctp_course_sides.proofs.ChunksHold.{KeptByChunks, packet_holds}
use Rattle.sctp_course_sides.proofs.LateGreetings.{late_init_ack_chunk, late_init_chunk}
use Rattle.sctp_course_sides.proofs.MeetingChunks.{one_then, same_goes, then_stage}
use Rattle.sctp_course_sides.proofs.PacketFollows.{chunk_follows, comes_still}
use Rattle.sctp_course_sides.proofs.Reaching.{stays_following}
use Rattle.sctp_course_sides.proofs.StageChunks.{GoesToStage, chunk_goes_to_stage}
use Rattle.sctp_course_sides.proofs.TruthBeside.{answers_grow, same_answers}
use Rattle.sctp_course_sides.proofs.TruthInChunks.{chunk_answers}

-- Who may hear its peer

-- goes on to do so
pub hear_on : (own : ℕ) (t s : Stage) (a : Shown) → (g : GoesToStage own t s a) → MayHear s → MayHear g.after
hear_on own t s a g (inl done) = inl (g.goes.completed done)
hear_on own t s a g (inr (client, known)) = inr (g.goes.side ∙ client, g.goes.knows known)

hear_of : (own : ℕ) (s : Stage) (a : Shown) → IsAtStage own s a → MayHear s → MayHear (stage_of a)
hear_of own s a at hears = subst MayHear (sym at.stage) hears

-- It knows its peer's initial TSN.
hearer_knows : (a : Shown) → HasCome a → MayHear (stage_of a) → is_some a.handshake.peer_initial_tsn ≡ true
hearer_knows a come (inr (client, known)) = known
hearer_knows a (inl w) (inl done) = absurd (true≢false (sym done ∙ w.incomplete))
hearer_knows a (inr (inl w)) (inl done) = w.known
hearer_knows a (inr (inr (inl l))) (inl done) = absurd (true≢false (sym done ∙ l.incomplete))
hearer_knows a (inr (inr (inr s))) (inl done) = s.known

pub hearers_know : (own : ℕ) (s : Stage) (a : Shown) → IsAtStage own s a → MayHear s
    → is_some a.handshake.peer_initial_tsn ≡ true
hearers_know own s a at hears = hearer_knows a at.come (hear_of own s a at hears)

-- it waits for no INIT ACK
begun_waits_not : (s : AssociationState) → is_beginning s ≡ false → is_cookie_wait s ≡ false
begun_waits_not states.Closed e = refl
begun_waits_not states.CookieWait e = absurd (true≢false e)
begun_waits_not states.CookieEchoed e = refl
begun_waits_not states.Established e = refl
begun_waits_not states.ShutdownAckSent e = refl
begun_waits_not states.ShutdownPending e = refl
begun_waits_not states.ShutdownReceived e = refl
begun_waits_not states.ShutdownSent e = refl

hearer_waits_not : (a : Shown) → HasCome a → MayHear (stage_of a) → is_cookie_wait a.state ≡ false
hearer_waits_not a (inl w) hears = absurd (true≢false (sym (hearer_knows a (inl w) hears) ∙ w.unknown))
hearer_waits_not a (inr (inl w)) hears = ap is_cookie_wait w.state
hearer_waits_not a (inr (inr (inl l))) hears = ap is_cookie_wait l.state
hearer_waits_not a (inr (inr (inr s))) hears = begun_waits_not a.state s.state

not_both : sides.Client ≡ sides.Server → ⊥
not_both e = cc

-- nor for an INIT of a client
hearer_is_past : (t : Stage) (a : Shown) → HasCome a → MayHear (stage_of a) → IsDoneAmongClients (stage_of a) t
    → t.side ≡ sides.Client → is_beginning a.state ≡ false
hearer_is_past t a (inl w) hears one client = absurd (true≢false (sym (one w.client client) ∙ w.incomplete))
hearer_is_past t a (inr (inl w)) hears one client = absurd (true≢false (sym (one w.client client) ∙ w.incomplete))
hearer_is_past t a (inr (inr (inl l))) (inl done) one client = absurd (true≢false (sym done ∙ l.incomplete))
hearer_is_past t a (inr (inr (inl l))) (inr (is_client, known)) one client =
    absurd (not_both (sym is_client ∙ l.server))
hearer_is_past t a (inr (inr (inr s))) hears one client = s.state

-- and it is not closed
begun_is_open : (s : AssociationState) → is_beginning s ≡ false → is_closed_state s ≡ false
begun_is_open states.Closed e = absurd (true≢false e)
begun_is_open states.CookieWait e = refl
begun_is_open states.CookieEchoed e = refl
begun_is_open states.Established e = refl
begun_is_open states.ShutdownAckSent e = refl
begun_is_open states.ShutdownPending e = refl
begun_is_open states.ShutdownReceived e = refl
begun_is_open states.ShutdownSent e = refl

hearer_is_open : (a : Shown) → HasCome a → MayHear (stage_of a) → is_closed_state a.state ≡ false
hearer_is_open a (inl w) hears = ap is_closed_state w.state
hearer_is_open a (inr (inl w)) hears = ap is_closed_state w.state
hearer_is_open a (inr (inr (inl l))) (inl done) = absurd (true≢false (sym done ∙ l.incomplete))
hearer_is_open a (inr (inr (inl l))) (inr (client, known)) = absurd (not_both (sym client ∙ l.server))
hearer_is_open a (inr (inr (inr s))) hears = begun_is_open a.state s.state

-- What a side that talks to its peer has come to in a packet: the course goes on, nothing is read, and the side follows
-- it then and answers truly.
pub record TalksOn (P : ChunkPayloadData → Type 0) (own initial id : ℕ) (t s : Stage) (c : Course) (a : Shown)
    : Type 0 where
  pub stage : GoesToStage own t s a
  pub after : Course
  pub goes : GoesOn c after
  pub told : after.told ≡ c.told
  pub past : History
  pub follows : Follows P initial id a past after
  pub answers : AnswersTruly initial a after

-- a chunk that comes of the course, whose word of the handshake is so
abbrev pub ComesTruly : (ChunkPayloadData → Type 0) → ℕ → ℕ → Stage → Course → Chunk → Type 0
ComesTruly P initial id t c chunk = ChunkComes initial id c chunk × SpeaksOfStage initial t chunk × IsOnly P chunk

module _ (P : ChunkPayloadData → Type 0) (own initial id : ℕ) (t s : Stage) (c : Course)
    (one : IsDoneAmongClients s t) (hears : MayHear s)
  where
    abbrev Talks : Shown → Type 0
    Talks a = TalksOn P own initial id t s c a

    heard : (a : Shown) → Talks a → MayHear (stage_of a)
    heard a k = hear_of own k.stage.after a k.stage.at (hear_on own t s a k.stage hears)

    -- of DATA and of what belongs to it
    data_talks : (header : CommonHeader) (chunk : Chunk) (a : Shown) (trigger : AckTrigger) (now : ℕ)
        → IsNoGreeting chunk → ComesTruly P initial id t c chunk → Talks a → Talks
        (on_chunk a header chunk trigger now).0
    data_talks header chunk a trigger now shakes (came, speaks, so) k =
        let b : Shown = (on_chunk a header chunk trigger now).0 in
        let came_then : ChunkComes initial id k.after chunk = comes_still initial id c k.after k.goes chunk came in
        let l : LeadsFollowing P initial id b k.after =
        chunk_follows P initial id a k.past k.after header chunk trigger now came_then so shakes k.follows in
        let left = goes_leaves k.after l.after l.goes in
        record {
          stage =
              then_stage own t s a b k.stage
              (chunk_goes_to_stage own t k.stage.after initial header
              (one_then s t k.stage.after k.stage.goes one) chunk a trigger now speaks k.stage.at);
          after = l.after;
          goes = goes_on c k.after l.after k.goes l.goes;
          told = l.told ∙ k.told;
          past = l.past;
          follows = l.follows;
          answers =
              chunk_answers initial id a header chunk trigger now k.after l.after l.follows.few
              l.follows.stands.kept.asks.known left.0 left.3 k.follows.stands.numbered l.follows.stands.numbered shakes
              came_then k.answers;
        }

    same_talks : (a b : Shown) → b ≡ a → Talks a → Talks b
    same_talks a b e k = subst Talks (sym e) k

    chunk_talks : (header : CommonHeader) (chunk : Chunk) (a : Shown) (trigger : AckTrigger) (now : ℕ)
        → ComesTruly P initial id t c chunk → Talks a → Talks (on_chunk a header chunk trigger now).0
    chunk_talks header (chunks.Init x) a trigger now (came, speaks, so) k =
        same_talks a (on_chunk a header (chunks.Init x) trigger now).0
        (late_init_chunk a header x trigger now
        (hearer_is_past t a k.stage.at.come (heard a k)
        (subst (λ (z : Stage). IsDoneAmongClients z t) (sym k.stage.at.stage)
        (one_then s t k.stage.after k.stage.goes one)) speaks.1)) k
    chunk_talks header (chunks.InitAck x) a trigger now all k =
        same_talks a (on_chunk a header (chunks.InitAck x) trigger now).0
        (late_init_ack_chunk a header x trigger now (hearer_waits_not a k.stage.at.come (heard a k))) k
    chunk_talks header (chunks.Data x) a trigger now all k = data_talks header (chunks.Data x) a trigger now tt all k
    chunk_talks header (chunks.SelectiveAck x) a trigger now all k =
        data_talks header (chunks.SelectiveAck x) a trigger now tt all k
    chunk_talks header (chunks.Heartbeat x) a trigger now all k =
        data_talks header (chunks.Heartbeat x) a trigger now tt all k
    chunk_talks header (chunks.HeartbeatAck x) a trigger now all k =
        data_talks header (chunks.HeartbeatAck x) a trigger now tt all k
    chunk_talks header (chunks.Abort x) a trigger now all k = data_talks header (chunks.Abort x) a trigger now tt all k
    chunk_talks header (chunks.Error x) a trigger now all k = data_talks header (chunks.Error x) a trigger now tt all k
    chunk_talks header (chunks.Shutdown x) a trigger now all k =
        data_talks header (chunks.Shutdown x) a trigger now tt all k
    chunk_talks header chunks.ShutdownAck a trigger now all k =
        data_talks header chunks.ShutdownAck a trigger now tt all k
    chunk_talks header chunks.ShutdownComplete a trigger now all k =
        data_talks header chunks.ShutdownComplete a trigger now tt all k
    chunk_talks header (chunks.CookieEcho x) a trigger now all k =
        data_talks header (chunks.CookieEcho x) a trigger now tt all k
    chunk_talks header chunks.CookieAck a trigger now all k = data_talks header chunks.CookieAck a trigger now tt all k
    chunk_talks header (chunks.Reconfig x) a trigger now all k =
        data_talks header (chunks.Reconfig x) a trigger now tt all k
    chunk_talks header (chunks.ForwardTsn x) a trigger now all k =
        data_talks header (chunks.ForwardTsn x) a trigger now tt all k
    chunk_talks header (chunks.IForwardTsn x) a trigger now all k =
        data_talks header (chunks.IForwardTsn x) a trigger now tt all k
    chunk_talks header (chunks.Other kind flags value) a trigger now all k =
        data_talks header (chunks.Other kind flags value) a trigger now tt all k

    -- the end of a packet
    end_follows : (a : Shown) (h : History) (d : Course) (trigger : AckTrigger) (now : ℕ) → Follows P initial id a h d
        → LeadsFollowing P initial id (ended a trigger now) d
    end_follows a h d triggers.None now f =
        stays_following P initial id a (ended a triggers.None now) h d refl refl refl f
    end_follows a h d triggers.Delayed now f =
        stays_following P initial id a (ended a triggers.Delayed now) h d refl refl refl f
    end_follows a h d triggers.Immediate now f =
        stays_following P initial id a (ended a triggers.Immediate now) h d refl refl refl f

    end_talks : (a : Shown) (trigger : AckTrigger) (now : ℕ) → Talks a → Talks (ended a trigger now)
    end_talks a trigger now k =
        let b : Shown = ended a trigger now in
        let l : LeadsFollowing P initial id b k.after = end_follows a k.past k.after trigger now k.follows in
        record {
          stage = same_goes own t s a b (packets_end a trigger now).same k.stage;
          after = l.after;
          goes = goes_on c k.after l.after k.goes l.goes;
          told = l.told ∙ k.told;
          past = l.past;
          follows = l.follows;
          answers =
              answers_grow initial k.after l.after (goes_leaves k.after l.after l.goes).3 b
              (same_answers initial k.after a b refl refl k.answers);
        }

    talks_by_chunks : KeptByChunks Talks (ComesTruly P initial id t c)
    talks_by_chunks = record {
      chunk = chunk_talks;
      exhausting = λ a closed k.
          absurd (true≢false (sym closed ∙ hearer_is_open a k.stage.at.come (heard a k)));
      ending = end_talks;
    }

    -- A packet of the peer, unless it loses the side.
    pub packet_talks : (packet : Option Packet) (a : Shown) (now : ℕ) → OfEachChunk (ComesTruly P initial id t c) packet
        → Talks a → (after_packet a packet now).lost ≡ false → Talks (after_packet a packet now)
    packet_talks packet a now all k lost =
        packet_holds Talks (ComesTruly P initial id t c) talks_by_chunks packet a now all k lost
