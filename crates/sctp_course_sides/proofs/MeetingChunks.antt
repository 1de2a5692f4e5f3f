-- What a side that meets its peer takes of the peer's handshake, chunk by chunk (RFC 4960 section 5.1).
use Rattle.std.proofs.Common.{◌≡◌, refl, sym, ap, ◌∙◌, subst, ◌⊎◌, ⊎_elim, inl, inr, ℕ, ◌<◌, ◌^◌, true, false}
use Rattle.std.proofs.Common.{is_some, Option, Some, None, Result, Ok, Err}
use Rattle.std.proofs.lemmas.Bool.{false≢true, true≢false}
use Rattle.sctp_wire_types.specs.declared.chunk.Chunk.{Chunk}
use Rattle.sctp_wire_types.specs.declared.chunk.Chunk.TheVariants as chunks
use Rattle.sctp_wire_types.specs.declared.chunk.ChunkInit.{ChunkInit}
use Rattle.sctp_wire_types.specs.declared.chunk.ChunkPayloadData.{ChunkPayloadData}
use Rattle.sctp_wire_types.specs.declared.error.Error.{Error}
use Rattle.sctp_wire_types.specs.declared.packet.CommonHeader.{CommonHeader}
use Rattle.sctp_wire_types.specs.Checks.{checked_chunk}
use Rattle.sctp_wire.specs.declared.packet.Packet.{Packet}
use Rattle.sctp_streams.specs.declared.event.AssociationError.TheVariants as reasons
use Rattle.sctp_inbound.specs.declared.receiver.AckTrigger.{AckTrigger}
use Rattle.sctp_inbound.specs.declared.receiver.AckTrigger.TheVariants as triggers
use Rattle.sctp_courses.specs.Course.{Course}
use Rattle.sctp_directions.specs.Acts.{History}
use Rattle.sctp_assoc.specs.Chunks.{after_packet, checked_first, ended, on_chunk}
use Rattle.sctp_assoc.specs.Closing.{closed_by, exhausted, is_closed_state, out_of_resource}
use Rattle.sctp_assoc.specs.Control.{queued}
use Rattle.sctp_assoc.specs.Handshake.{on_init, on_init_ack}
use Rattle.sctp_assoc.specs.Leads.{Binds}
use Rattle.sctp_assoc.specs.Shown.{Shown}
use Rattle.sctp_assoc.proofs.CallsLeadOn.{chunk_leads}
use Rattle.sctp_sides.specs.Meeting.{Greets, IsDoneAmongClients, IsNoEarlier, MayHear, Stage}
use Rattle.sctp_sides.specs.NoReset.{HasNoReset, IsNoReconfig}
use Rattle.sctp_sides.specs.SideLaws.{IsSameStatus, OfEachChunk}
use Rattle.sctp_sides.proofs.Proved.{exhaustion_begins_no_reset, exhaustion_closes, faults_close}
use Rattle.sctp_sides.proofs.Proved.{other_chunks_begin_no_reset, packet_ends_begin_no_reset, packets_end}
use Rattle.sctp_sides.proofs.Proved.{the_same_status_is_the_same_stage}
use Rattle.sctp_course_sides.specs.Follows.{AwaitsIts, Follows, IsUntouched}
use Rattle.sctp_course_sides.specs.Meets.{FollowsOrAwaits, SpeaksOfStage}
use Rattle.sctp_course_sides.proofs.ChunksHold.{KeptByChunks, packet_holds}
use Rattle.sctp_course_sides.proofs.Greetings.{IsSeenAlike, alike_awaits, alike_follows, init_ack_follows, init_follows}
use Rattle.sctp_course_sides.proofs.LateGreetings.{IsKnown, IsLeft, init_ack_known, init_known, plain_greeting_left}
use Rattle.sctp_course_sides.proofs.StageCalls.{stays_at}
use Rattle.sctp_course_sides.proofs.StageChunks.{GoesToStage, chunk_goes_to_stage, end_stays_at, goes_through}

-- a chunk of the handshake is no RE-CONFIG, and its word of the handshake is so
pub greeting_is_no_reconfig : (peer : ℕ) (t : Stage) (chunk : Chunk) → Greets peer t chunk → IsNoReconfig chunk
greeting_is_no_reconfig peer t (chunks.Reconfig reconfig) said = absurd said
greeting_is_no_reconfig peer t chunk said = tt

pub greeting_speaks : (peer : ℕ) (t : Stage) (chunk : Chunk) → Greets peer t chunk → SpeaksOfStage peer t chunk
greeting_speaks peer t (chunks.Data x) said = absurd said
greeting_speaks peer t (chunks.SelectiveAck x) said = absurd said
greeting_speaks peer t (chunks.ForwardTsn x) said = absurd said
greeting_speaks peer t (chunks.IForwardTsn x) said = absurd said
greeting_speaks peer t (chunks.Reconfig x) said = absurd said
greeting_speaks peer t chunk said = said

module _ (P : ChunkPayloadData → Type 0) (initial id : ℕ) (c : Course) where
  -- a side of which nothing changed
  left_receives : (a b : Shown) → IsLeft a b → FollowsOrAwaits P initial id a c → FollowsOrAwaits P initial id b c
  left_receives a b left (inl (known, h, f)) =
      inl (ap is_some left.known ∙ known, h, alike_follows P initial id a b h c left.alike f)
  left_receives a b left (inr (unknown, w)) =
      inr (ap is_some left.known ∙ unknown, alike_awaits P initial id a b c left.alike w)

  -- one that met its peer follows the course
  known_receives : (b : Shown) → IsKnown b → ((k : History) × Follows P initial id b k c) ⊎ AwaitsIts P initial id b c
      → FollowsOrAwaits P initial id b c
  known_receives b known (inl follows) = inl (known.0, follows.0, follows.1)
  known_receives b known (inr w) = absurd (false≢true (sym (ap is_some w.unknown) ∙ known.1))

  module _ (small : initial < 2 ^ 32) (untouched : IsUntouched c) (header : CommonHeader) (init : ChunkInit)
      (trigger : AckTrigger) (same : init.initial_tsn ≡ initial)
    where
      init_knows : (a : Shown) (h : History) → Binds a h → IsKnown (on_init a header init trigger).0
          → FollowsOrAwaits P initial id a c → FollowsOrAwaits P initial id (on_init a header init trigger).0 c
      init_knows a h binds known (inl (before, k, f)) =
          known_receives (on_init a header init trigger).0 known
          (init_follows P initial id a k c header init trigger same small (λ e. untouched) f.binds (inl f))
      init_knows a h binds known (inr (unknown, w)) =
          known_receives (on_init a header init trigger).0 known
          (init_follows P initial id a h c header init trigger same small (λ e. untouched) binds (inr w))

      init_receives : (a : Shown) (h : History) → Binds a h → FollowsOrAwaits P initial id a c
          → FollowsOrAwaits P initial id (on_init a header init trigger).0 c
      init_receives a h binds was =
          ⊎_elim
          (λ (known : IsKnown (on_init a header init trigger).0). init_knows a h binds known was)
          (λ (left : IsLeft a (on_init a header init trigger).0).
          left_receives a (on_init a header init trigger).0 left was)
          (init_known a header init trigger)

      init_ack_receives : (now : ℕ) (a : Shown) (h : History) → Binds a h → FollowsOrAwaits P initial id a c
          → FollowsOrAwaits P initial id (on_init_ack a header init trigger now).0 c
      init_ack_receives now a h binds was =
          ⊎_elim
          (λ (known : IsKnown (on_init_ack a header init trigger now).0). knows known was)
          (λ (left : IsLeft a (on_init_ack a header init trigger now).0).
          left_receives a (on_init_ack a header init trigger now).0 left was)
          (init_ack_known a header init trigger now)
        where
          knows : IsKnown (on_init_ack a header init trigger now).0 → FollowsOrAwaits P initial id a c
              → FollowsOrAwaits P initial id (on_init_ack a header init trigger now).0 c
          knows known (inl (before, k, f)) =
              known_receives (on_init_ack a header init trigger now).0 known
              (init_ack_follows P initial id a k c header init trigger now same small (λ e. untouched) f.binds (inl f))
          knows known (inr (unknown, w)) =
              known_receives (on_init_ack a header init trigger now).0 known
              (init_ack_follows P initial id a h c header init trigger now same small (λ e. untouched) binds (inr w))

  -- a chunk that its own check refuses changes nothing
  init_checked : (r : Result (Unit {0}) Error) (a : Shown) (header : CommonHeader) (init : ChunkInit)
      (trigger : AckTrigger) (now : ℕ) → FollowsOrAwaits P initial id a c
      → FollowsOrAwaits P initial id (on_init a header init trigger).0 c
      → FollowsOrAwaits P initial id (checked_first r a header (chunks.Init init) trigger now).0 c
  init_checked (Err fault) a header init trigger now was then = was
  init_checked (Ok done) a header init trigger now was then = then

  init_ack_checked : (r : Result (Unit {0}) Error) (a : Shown) (header : CommonHeader) (init : ChunkInit)
      (trigger : AckTrigger) (now : ℕ) → FollowsOrAwaits P initial id a c
      → FollowsOrAwaits P initial id (on_init_ack a header init trigger now).0 c
      → FollowsOrAwaits P initial id (checked_first r a header (chunks.InitAck init) trigger now).0 c
  init_ack_checked (Err fault) a header init trigger now was then = was
  init_ack_checked (Ok done) a header init trigger now was then = then

  module _ (small : initial < 2 ^ 32) (untouched : IsUntouched c) (t : Stage) (header : CommonHeader)
      (trigger : AckTrigger) (now : ℕ) (a : Shown) (h : History) (binds : Binds a h)
      (was : FollowsOrAwaits P initial id a c)
    where
      init_chunk : (init : ChunkInit) → init.initial_tsn ≡ initial
          → FollowsOrAwaits P initial id (on_chunk a header (chunks.Init init) trigger now).0 c
      unfolding on_chunk
      init_chunk init same =
          init_checked (checked_chunk (chunks.Init init)) a header init trigger now was
          (init_receives small untouched header init trigger same a h binds was)

      init_ack_chunk : (init : ChunkInit) → init.initial_tsn ≡ initial
          → FollowsOrAwaits P initial id (on_chunk a header (chunks.InitAck init) trigger now).0 c
      unfolding on_chunk
      init_ack_chunk init same =
          init_ack_checked (checked_chunk (chunks.InitAck init)) a header init trigger now was
          (init_ack_receives small untouched header init trigger same now a h binds was)

      plainly : (chunk : Chunk) → IsLeft a (on_chunk a header chunk trigger now).0
          → FollowsOrAwaits P initial id (on_chunk a header chunk trigger now).0 c
      plainly chunk left = left_receives a (on_chunk a header chunk trigger now).0 left was

      greeting_receives : (chunk : Chunk) → Greets initial t chunk
          → FollowsOrAwaits P initial id (on_chunk a header chunk trigger now).0 c
      greeting_receives (chunks.Init x) said = init_chunk x said.0
      greeting_receives (chunks.InitAck x) said = init_ack_chunk x said.0
      greeting_receives (chunks.CookieEcho x) said =
          plainly (chunks.CookieEcho x) (plain_greeting_left (chunks.CookieEcho x) a header trigger now tt)
      greeting_receives chunks.CookieAck said =
          plainly chunks.CookieAck (plain_greeting_left chunks.CookieAck a header trigger now tt)
      greeting_receives (chunks.Abort x) said =
          plainly (chunks.Abort x) (plain_greeting_left (chunks.Abort x) a header trigger now tt)
      greeting_receives (chunks.Error x) said =
          plainly (chunks.Error x) (plain_greeting_left (chunks.Error x) a header trigger now tt)
      greeting_receives (chunks.Shutdown x) said =
          plainly (chunks.Shutdown x) (plain_greeting_left (chunks.Shutdown x) a header trigger now tt)
      greeting_receives chunks.ShutdownAck said =
          plainly chunks.ShutdownAck (plain_greeting_left chunks.ShutdownAck a header trigger now tt)
      greeting_receives chunks.ShutdownComplete said =
          plainly chunks.ShutdownComplete (plain_greeting_left chunks.ShutdownComplete a header trigger now tt)
      greeting_receives (chunks.Data x) said = absurd said
      greeting_receives (chunks.SelectiveAck x) said = absurd said
      greeting_receives (chunks.Heartbeat x) said = absurd said
      greeting_receives (chunks.HeartbeatAck x) said = absurd said
      greeting_receives (chunks.Reconfig x) said = absurd said
      greeting_receives (chunks.ForwardTsn x) said = absurd said
      greeting_receives (chunks.IForwardTsn x) said = absurd said
      greeting_receives (chunks.Other kind flags value) said = absurd said

-- How far a side came by chunks of the handshake of a peer in the stage t, of which no DATA came.
pub record HasMet (P : ChunkPayloadData → Type 0) (own initial id : ℕ) (t s : Stage) (c : Course) (a : Shown)
    : Type 0 where
  pub goes : GoesToStage own t s a
  pub past : History
  pub binds : Binds a past
  pub receives : FollowsOrAwaits P initial id a c
  pub no_reset : HasNoReset a

-- one stage behind another
pub then_stage : (own : ℕ) (t s : Stage) (a b : Shown) (g : GoesToStage own t s a) → GoesToStage own t g.after b
    → GoesToStage own t s b
then_stage own t s a b g k = record {
  after = k.after;
  goes = goes_through s g.after k.after g.goes k.goes;
  completes = λ done. ⊎_elim (λ (before : g.after.completed ≡ true). g.completes before)
      (λ (hears : MayHear t). inr hears) (k.completes done);
  at = k.at;
}

-- a later stage of one of two clients is established, where the earlier one was
pub one_then : (s t u : Stage) → IsNoEarlier s u → IsDoneAmongClients s t → IsDoneAmongClients u t
one_then s t u goes one = λ client other. goes.completed (one (sym goes.side ∙ client) other)

-- at the end of a packet
end_alike : (a : Shown) (trigger : AckTrigger) (now : ℕ) → IsLeft a (ended a trigger now)
end_alike a triggers.None now =
    record { known = refl; alike = record { resets = refl; streams = refl; queue = refl; past = refl } }
end_alike a triggers.Delayed now =
    record { known = refl; alike = record { resets = refl; streams = refl; queue = refl; past = refl } }
end_alike a triggers.Immediate now =
    record { known = refl; alike = record { resets = refl; streams = refl; queue = refl; past = refl } }

-- where a closed side runs out of its receive buffer
exhausted_alike : (a : Shown) → is_closed_state a.state ≡ true → IsLeft a (exhausted a)
exhausted_alike a closed =
    subst (λ (z : Shown). IsLeft a (queued z out_of_resource))
    (sym ((faults_close a reasons.ReceiveBufferExhausted).stays closed))
    record { known = refl; alike = record { resets = refl; streams = refl; queue = refl; past = refl } }

-- the stage is kept
pub same_goes : (own : ℕ) (t s : Stage) (a b : Shown) → IsSameStatus a b → GoesToStage own t s a
    → GoesToStage own t s b
same_goes own t s a b same g = record {
  after = g.after;
  goes = g.goes;
  completes = g.completes;
  at = stays_at own g.after a b (the_same_status_is_the_same_stage a b same) g.at;
}

module _ (P : ChunkPayloadData → Type 0) (own initial id : ℕ) (t s : Stage) (c : Course) (small : initial < 2 ^ 32)
    (untouched : IsUntouched c) (one : IsDoneAmongClients s t)
  where
    met_by_chunk : (header : CommonHeader) (chunk : Chunk) (a : Shown) (trigger : AckTrigger) (now : ℕ)
        → Greets initial t chunk → HasMet P own initial id t s c a
        → HasMet P own initial id t s c (on_chunk a header chunk trigger now).0
    met_by_chunk header chunk a trigger now said m =
        let b : Shown = (on_chunk a header chunk trigger now).0 in
        let k = chunk_leads header chunk a trigger now m.past m.binds in
        record {
          goes =
              then_stage own t s a b m.goes
              (chunk_goes_to_stage own t m.goes.after initial header (one_then s t m.goes.after m.goes.goes one) chunk a
              trigger now (greeting_speaks initial t chunk said) m.goes.at);
          past = k.0;
          binds = k.1.binds;
          receives = greeting_receives P initial id c small untouched t header trigger now a m.past m.binds m.receives
              chunk said;
          no_reset =
              other_chunks_begin_no_reset a header chunk trigger now (greeting_is_no_reconfig initial t chunk said)
              m.no_reset;
        }

    met_by_chunks : KeptByChunks (HasMet P own initial id t s c) (Greets initial t)
    met_by_chunks = record {
      chunk = met_by_chunk;
      exhausting = λ a closed m.
          (let over = (exhaustion_closes a).stays closed in
          let k = over.0 m.past m.binds in
          record {
            goes = same_goes own t s a (exhausted a) over.1 m.goes;
            past = k.0;
            binds = k.1.binds;
            receives = left_receives P initial id c a (exhausted a) (exhausted_alike a closed) m.receives;
            no_reset = exhaustion_begins_no_reset a m.no_reset;
          });
      ending = λ a trigger now m.
          (let end = packets_end a trigger now in
          let k = end.leads m.past m.binds in
          record {
            goes = same_goes own t s a (ended a trigger now) end.same m.goes;
            past = k.0;
            binds = k.1.binds;
            receives = left_receives P initial id c a (ended a trigger now) (end_alike a trigger now) m.receives;
            no_reset = packet_ends_begin_no_reset a trigger now m.no_reset;
          });
    }

    -- A packet of the handshake, unless it loses the side.
    pub packet_meets : (packet : Option Packet) (a : Shown) (now : ℕ) → OfEachChunk (Greets initial t) packet
        → HasMet P own initial id t s c a → (after_packet a packet now).lost ≡ false
        → HasMet P own initial id t s c (after_packet a packet now)
    packet_meets packet a now all m lost =
        packet_holds (HasMet P own initial id t s c) (Greets initial t) met_by_chunks packet a now all m lost
