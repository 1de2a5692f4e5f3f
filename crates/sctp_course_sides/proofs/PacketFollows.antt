-- A packet that comes keeps a side on the course of a stream.
use Rattle.std.proofs.Common.{◌≡◌, refl, sym, ◌∙◌, subst, ℕ, Bool, true, false, if◌then◌else◌, List, [], ◌∷◌}
use Rattle.std.proofs.Common.{Option, Some, None, Result, Ok, Err}
use Rattle.std.specs.Bool.{⊤}
use Rattle.std.specs.List.{AllByRecursion}
use Rattle.std.proofs.lemmas.Bool.{true≢false}
use Rattle.sctp_wire_types.specs.declared.chunk.ChunkPayloadData.{ChunkPayloadData}
use Rattle.sctp_wire_types.specs.Checks.{checked_chunk}
use Rattle.sctp_wire_types.specs.declared.chunk.Chunk.{Chunk}
use Rattle.sctp_wire_types.specs.declared.chunk.Chunk.TheVariants as chunks
use Rattle.sctp_wire_types.specs.declared.chunk.ChunkHeartbeat.{ChunkHeartbeat}
use Rattle.sctp_wire_types.specs.declared.error.Error.{Error}
use Rattle.sctp_wire_types.specs.declared.packet.CommonHeader.{CommonHeader}
use Rattle.sctp_wire.specs.declared.packet.Packet.{Packet}
use Rattle.sctp_streams.specs.declared.event.AssociationError.{AssociationError}
use Rattle.sctp_streams.specs.declared.event.AssociationError.TheVariants as reasons
use Rattle.sctp_inbound.specs.declared.receiver.AckTrigger.{AckTrigger}
use Rattle.sctp_inbound.specs.declared.receiver.AckTrigger.TheVariants as triggers
use Rattle.sctp_inbound.specs.Greeting.{information_of}
use Rattle.sctp_inbound.specs.Handshake.{has_issued}
use Rattle.sctp_courses.specs.Course.{Course}
use Rattle.sctp_reset_fit.specs.Keeping.{GoesOn}
use Rattle.sctp_reset_fit.proofs.Keeping.{goes_nowhere, goes_on}
use Rattle.sctp_directions.specs.Acts.{History}
use Rattle.sctp_assoc.specs.declared.inbound.Flow.{Flow}
use Rattle.sctp_assoc.specs.declared.inbound.Flow.TheVariants as flows
use Rattle.sctp_assoc.specs.Calls.{is_beginning, is_cookie_echoed}
use Rattle.sctp_assoc.specs.Chunks.{after_chunks, after_packet, after_packet_of, checked_first, dispatched, ended}
use Rattle.sctp_assoc.specs.Chunks.{goes_on as goes_behind, on_chunk}
use Rattle.sctp_assoc.specs.Closing.{closed_open, is_closed_state, out_of_resource}
use Rattle.sctp_assoc.specs.Control.{queued}
use Rattle.sctp_assoc.specs.Handshake.{acknowledged_cookie, acknowledges_again, connected, information_returned}
use Rattle.sctp_assoc.specs.Handshake.{on_cookie_ack, on_cookie_echo, on_heartbeat}
use Rattle.sctp_assoc.specs.Shown.{Shown}
use Rattle.sctp_assoc.specs.Shutdown.{shutdown_again, shutdown_answered, shutdown_taken}
use Rattle.sctp_assoc.specs.Skipping.{skips_of}
use Rattle.sctp_sides.specs.Brought.{BringsOnly, IsOnly}
use Rattle.sctp_course_sides.specs.Following.{ChunksCome, IsNoGreeting, LeadsFollowing, LeadsUnlessLost, PacketComes}
use Rattle.sctp_course_sides.specs.Follows.{ChunkComes, Follows}
use Rattle.sctp_course_sides.proofs.DataComes.{data_follows, data_still}
use Rattle.sctp_course_sides.proofs.ForwardComes.{forward_follows, sent_still}
use Rattle.sctp_course_sides.proofs.Reaching.{same_following, stays_following}
use Rattle.sctp_course_sides.proofs.RequestComes.{param_still, param_still_if, reconfig_follows}
use Rattle.sctp_course_sides.proofs.SackComes.{sack_follows}

-- A chunk of the course's sender stays one where the course goes on.
pub comes_still : (initial id : ℕ) (c d : Course) → GoesOn c d → (chunk : Chunk) → ChunkComes initial id c chunk
    → ChunkComes initial id d chunk
comes_still initial id c d goes (chunks.Data piece) came = data_still initial id c d piece goes came
comes_still initial id c d goes (chunks.SelectiveAck x) came = tt
comes_still initial id c d goes (chunks.Init x) came = tt
comes_still initial id c d goes (chunks.InitAck x) came = tt
comes_still initial id c d goes (chunks.Heartbeat x) came = tt
comes_still initial id c d goes (chunks.HeartbeatAck x) came = tt
comes_still initial id c d goes (chunks.Abort x) came = tt
comes_still initial id c d goes (chunks.Shutdown x) came = tt
comes_still initial id c d goes chunks.ShutdownAck came = tt
comes_still initial id c d goes (chunks.Error x) came = tt
comes_still initial id c d goes (chunks.CookieEcho x) came = tt
comes_still initial id c d goes chunks.CookieAck came = tt
comes_still initial id c d goes chunks.ShutdownComplete came = tt
comes_still initial id c d goes (chunks.Reconfig x) came =
    (param_still initial id c d goes x.first came.0, param_still_if initial id c d goes x.second came.1)
comes_still initial id c d goes (chunks.ForwardTsn x) came = sent_still initial c d x.new_cumulative_tsn goes came
comes_still initial id c d goes (chunks.IForwardTsn x) came = sent_still initial c d x.new_cumulative_tsn goes came
comes_still initial id c d goes (chunks.Other kind flags value) came = tt

-- so do all chunks of a packet
pub all_come_still : (initial id : ℕ) (c d : Course) → GoesOn c d → (all : List Chunk) → ChunksCome initial id c all
    → ChunksCome initial id d all
all_come_still initial id c d goes [] came = tt
all_come_still initial id c d goes (x ∷ xs) came =
    ((comes_still initial id c d goes x came.0.0, came.0.1), all_come_still initial id c d goes xs came.1)

module _ (P : ChunkPayloadData → Type 0) (initial id : ℕ) where
  -- The handshake, where the peer is known

  cookie_echo_follows : (issued beginning again : Bool) (a : Shown) (h : History) (c : Course)
      (cookie : List ℕ) (trigger : AckTrigger) → has_issued a.handshake cookie ≡ issued
      → is_beginning a.state ≡ beginning → acknowledges_again a ≡ again → Follows P initial id a h c
      → LeadsFollowing P initial id (on_cookie_echo a cookie trigger).0 c
  unfolding on_cookie_echo
  cookie_echo_follows false beginning again a h c cookie trigger e g i f = rw e (same_following P initial id a h c f)
  cookie_echo_follows true true again a h c cookie trigger e g i f =
      rw (e, g) (stays_following P initial id a (acknowledged_cookie (connected a)) h c refl refl refl f)
  cookie_echo_follows true false true a h c cookie trigger e g i f =
      rw (e, g, i) (stays_following P initial id a (acknowledged_cookie (shutdown_again a)) h c refl refl refl f)
  cookie_echo_follows true false false a h c cookie trigger e g i f =
      rw (e, g, i) (same_following P initial id a h c f)

  cookie_ack_follows : (echoed : Bool) (a : Shown) (h : History) (c : Course) (trigger : AckTrigger)
      → is_cookie_echoed a.state ≡ echoed → Follows P initial id a h c
      → LeadsFollowing P initial id (on_cookie_ack a trigger).0 c
  unfolding on_cookie_ack
  cookie_ack_follows true a h c trigger e f = rw e (stays_following P initial id a (connected a) h c refl refl refl f)
  cookie_ack_follows false a h c trigger e f = rw e (same_following P initial id a h c f)

  returned_follows : (o : Option (List ℕ)) (a : Shown) (h : History) (c : Course) → Follows P initial id a h c
      → LeadsFollowing P initial id (information_returned o a) c
  returned_follows None a h c f = same_following P initial id a h c f
  returned_follows (Some information) a h c f =
      stays_following P initial id a (information_returned (Some information) a) h c refl refl refl f

  heartbeat_follows : (a : Shown) (h : History) (c : Course) (heartbeat : ChunkHeartbeat) (trigger : AckTrigger)
      → Follows P initial id a h c → LeadsFollowing P initial id (on_heartbeat a heartbeat trigger).0 c
  unfolding on_heartbeat
  heartbeat_follows a h c heartbeat trigger f = returned_follows (information_of heartbeat.params) a h c f

  -- Any chunk but a SACK

  abbrev IsNoSack : Chunk → Type 0
  IsNoSack (chunks.SelectiveAck sack) = ⊥
  IsNoSack chunk = ⊤

  kind_follows : (a : Shown) (h : History) (c : Course) (header : CommonHeader) (chunk : Chunk) (trigger : AckTrigger)
      (now : ℕ) → IsNoSack chunk → ChunkComes initial id c chunk → IsOnly P chunk → IsNoGreeting chunk
      → Follows P initial id a h c
      → LeadsFollowing P initial id (dispatched a header chunk trigger now).0 c
  kind_follows a h c header (chunks.Data piece) trigger now other came so shakes f =
      data_follows P initial id piece _ so a h c came f
  kind_follows a h c header (chunks.SelectiveAck x) trigger now other came so shakes f = absurd other
  kind_follows a h c header (chunks.Init x) trigger now other came so shakes f = absurd shakes
  kind_follows a h c header (chunks.InitAck x) trigger now other came so shakes f = absurd shakes
  kind_follows a h c header (chunks.Heartbeat x) trigger now other came so shakes f =
      heartbeat_follows a h c x trigger f
  kind_follows a h c header (chunks.HeartbeatAck x) trigger now other came so shakes f =
      same_following P initial id a h c f
  kind_follows a h c header (chunks.Abort x) trigger now other came so shakes f = same_following P initial id a h c f
  kind_follows a h c header (chunks.Shutdown x) trigger now other came so shakes f =
      stays_following P initial id a (shutdown_taken a) h c refl refl refl f
  kind_follows a h c header chunks.ShutdownAck trigger now other came so shakes f =
      stays_following P initial id a (shutdown_answered a) h c refl refl refl f
  kind_follows a h c header (chunks.Error x) trigger now other came so shakes f = same_following P initial id a h c f
  kind_follows a h c header (chunks.CookieEcho x) trigger now other came so shakes f =
      cookie_echo_follows (has_issued a.handshake x) (is_beginning a.state) (acknowledges_again a) a h c x trigger
      refl refl refl f
  kind_follows a h c header chunks.CookieAck trigger now other came so shakes f =
      cookie_ack_follows (is_cookie_echoed a.state) a h c trigger refl f
  kind_follows a h c header chunks.ShutdownComplete trigger now other came so shakes f =
      same_following P initial id a h c f
  kind_follows a h c header (chunks.Reconfig x) trigger now other came so shakes f =
      reconfig_follows P initial id a h c x trigger came.0 came.1 f
  kind_follows a h c header (chunks.ForwardTsn x) trigger now other came so shakes f =
      forward_follows P initial id x.new_cumulative_tsn x.streams trigger now a h c came f
  kind_follows a h c header (chunks.IForwardTsn x) trigger now other came so shakes f =
      forward_follows P initial id x.new_cumulative_tsn (skips_of x.entries) trigger now a h c came f
  kind_follows a h c header (chunks.Other kind flags value) trigger now other came so shakes f =
      same_following P initial id a h c f

  checked_follows : (r : Result (Unit {0}) Error) (a : Shown) (h : History) (c : Course) (header : CommonHeader)
      (chunk : Chunk) (trigger : AckTrigger) (now : ℕ) → IsNoSack chunk → ChunkComes initial id c chunk
      → IsOnly P chunk → IsNoGreeting chunk → Follows P initial id a h c
      → LeadsFollowing P initial id (checked_first r a header chunk trigger now).0 c
  checked_follows (Err fault) a h c header chunk trigger now other came so shakes f =
      same_following P initial id a h c f
  checked_follows (Ok done) a h c header chunk trigger now other came so shakes f =
      kind_follows a h c header chunk trigger now other came so shakes f

  other_follows : (a : Shown) (h : History) (c : Course) (header : CommonHeader) (chunk : Chunk) (trigger : AckTrigger)
      (now : ℕ) → IsNoSack chunk → ChunkComes initial id c chunk → IsOnly P chunk → IsNoGreeting chunk
      → Follows P initial id a h c
      → LeadsFollowing P initial id (on_chunk a header chunk trigger now).0 c
  unfolding on_chunk
  other_follows a h c header chunk trigger now other came so shakes f =
      checked_follows (checked_chunk chunk) a h c header chunk trigger now other came so shakes f

  -- A chunk of the course's sender that begins no association keeps to the course.
  pub chunk_follows : (a : Shown) (h : History) (c : Course) (header : CommonHeader) (chunk : Chunk)
      (trigger : AckTrigger) (now : ℕ) → ChunkComes initial id c chunk → IsOnly P chunk → IsNoGreeting chunk
      → Follows P initial id a h c
      → LeadsFollowing P initial id (on_chunk a header chunk trigger now).0 c
  chunk_follows a h c header (chunks.SelectiveAck x) trigger now came so shakes f =
      sack_follows P initial id a h c header x trigger now f
  chunk_follows a h c header (chunks.Data x) trigger now came so shakes f =
      other_follows a h c header (chunks.Data x) trigger now tt came so shakes f
  chunk_follows a h c header (chunks.Init x) trigger now came so shakes f = absurd shakes
  chunk_follows a h c header (chunks.InitAck x) trigger now came so shakes f = absurd shakes
  chunk_follows a h c header (chunks.Heartbeat x) trigger now came so shakes f =
      other_follows a h c header (chunks.Heartbeat x) trigger now tt came so shakes f
  chunk_follows a h c header (chunks.HeartbeatAck x) trigger now came so shakes f =
      other_follows a h c header (chunks.HeartbeatAck x) trigger now tt came so shakes f
  chunk_follows a h c header (chunks.Abort x) trigger now came so shakes f =
      other_follows a h c header (chunks.Abort x) trigger now tt came so shakes f
  chunk_follows a h c header (chunks.Shutdown x) trigger now came so shakes f =
      other_follows a h c header (chunks.Shutdown x) trigger now tt came so shakes f
  chunk_follows a h c header chunks.ShutdownAck trigger now came so shakes f =
      other_follows a h c header chunks.ShutdownAck trigger now tt came so shakes f
  chunk_follows a h c header (chunks.Error x) trigger now came so shakes f =
      other_follows a h c header (chunks.Error x) trigger now tt came so shakes f
  chunk_follows a h c header (chunks.CookieEcho x) trigger now came so shakes f =
      other_follows a h c header (chunks.CookieEcho x) trigger now tt came so shakes f
  chunk_follows a h c header chunks.CookieAck trigger now came so shakes f =
      other_follows a h c header chunks.CookieAck trigger now tt came so shakes f
  chunk_follows a h c header chunks.ShutdownComplete trigger now came so shakes f =
      other_follows a h c header chunks.ShutdownComplete trigger now tt came so shakes f
  chunk_follows a h c header (chunks.Reconfig x) trigger now came so shakes f =
      other_follows a h c header (chunks.Reconfig x) trigger now tt came so shakes f
  chunk_follows a h c header (chunks.ForwardTsn x) trigger now came so shakes f =
      other_follows a h c header (chunks.ForwardTsn x) trigger now tt came so shakes f
  chunk_follows a h c header (chunks.IForwardTsn x) trigger now came so shakes f =
      other_follows a h c header (chunks.IForwardTsn x) trigger now tt came so shakes f
  chunk_follows a h c header (chunks.Other kind flags value) trigger now came so shakes f =
      other_follows a h c header (chunks.Other kind flags value) trigger now tt came so shakes f

  -- Where an association may be lost

  unlost : (b : Shown) (c : Course) → LeadsFollowing P initial id b c → LeadsUnlessLost P initial id b c
  unlost b c l = record {
    after = l.after;
    goes = l.goes;
    told = l.told;
    follows = λ e. (l.past, l.follows);
  }

  lost : (b : Shown) (c : Course) → b.lost ≡ true → LeadsUnlessLost P initial id b c
  lost b c e = record {
    after = c;
    goes = goes_nowhere c;
    told = refl;
    follows = λ g. absurd (true≢false (sym e ∙ g));
  }

  unlost_on : (b : Shown) (c d : Course) → GoesOn c d → d.told ≡ c.told → LeadsUnlessLost P initial id b d
      → LeadsUnlessLost P initial id b c
  unlost_on b c d goes told l = record {
    after = l.after;
    goes = goes_on c d l.after goes l.goes;
    told = l.told ∙ told;
    follows = l.follows;
  }

  -- a close loses an open association, and leaves a closed one
  closed_follows : (closed : Bool) (a : Shown) (h : History) (c : Course) (reason : AssociationError)
      → Follows P initial id a h c
      → LeadsUnlessLost P initial id (if◌then◌else◌ {A = Shown} closed a (closed_open a reason)) c
  closed_follows true a h c reason f = unlost a c (same_following P initial id a h c f)
  closed_follows false a h c reason f = lost (closed_open a reason) c refl

  -- what goes out beside it is no matter
  exhausted_follows : (closed : Bool) (a : Shown) (h : History) (c : Course) (reason : AssociationError)
      → Follows P initial id a h c
      → LeadsUnlessLost P initial id
      (queued (if◌then◌else◌ {A = Shown} closed a (closed_open a reason)) out_of_resource) c
  exhausted_follows true a h c reason f =
      unlost (queued a out_of_resource) c
      (stays_following P initial id a (queued a out_of_resource) h c refl refl refl f)
  exhausted_follows false a h c reason f = lost (queued (closed_open a reason) out_of_resource) c refl

  ended_follows : (a : Shown) (h : History) (c : Course) (trigger : AckTrigger) (now : ℕ) → Follows P initial id a h c
      → LeadsFollowing P initial id (ended a trigger now) c
  ended_follows a h c triggers.None now f =
      stays_following P initial id a (ended a triggers.None now) h c refl refl refl f
  ended_follows a h c triggers.Delayed now f =
      stays_following P initial id a (ended a triggers.Delayed now) h c refl refl refl f
  ended_follows a h c triggers.Immediate now f =
      stays_following P initial id a (ended a triggers.Immediate now) h c refl refl refl f

  -- the chunks of a packet

  flow_follows : (x : Shown × Flow) (h : History) (c : Course) (more : Shown → AckTrigger → Shown)
      → Follows P initial id x.0 h c
      → ((trigger : AckTrigger) → LeadsUnlessLost P initial id (more x.0 trigger) c)
      → LeadsUnlessLost P initial id (goes_behind x more) c
  flow_follows (b, flows.Next trigger) h c more f on = on trigger
  flow_follows (b, flows.Fault fault) h c more f on =
      closed_follows (is_closed_state b.state) b h c reasons.AssociationClosed f
  flow_follows (b, flows.Closed) h c more f on =
      closed_follows (is_closed_state b.state) b h c reasons.AssociationClosed f
  flow_follows (b, flows.Exhausted) h c more f on =
      exhausted_follows (is_closed_state b.state) b h c reasons.ReceiveBufferExhausted f

  chunks_follow : (header : CommonHeader) (all : List Chunk) (a : Shown) (h : History) (c : Course)
      (trigger : AckTrigger) (now : ℕ) → ChunksCome initial id c all
      → AllByRecursion (IsOnly P) all → Follows P initial id a h c
      → LeadsUnlessLost P initial id (after_chunks header all a trigger now) c
  chunks_follow header [] a h c trigger now came so f =
      unlost (ended a trigger now) c (ended_follows a h c trigger now f)
  chunks_follow header (x ∷ xs) a h c trigger now came so f =
      let l : LeadsFollowing P initial id (on_chunk a header x trigger now).0 c =
      chunk_follows a h c header x trigger now came.0.0 so.0 came.0.1 f in
      unlost_on (after_chunks header (x ∷ xs) a trigger now) c l.after l.goes l.told
      (flow_follows (on_chunk a header x trigger now) l.past l.after (λ b next. after_chunks header xs b next now)
      l.follows
      (λ next.
      chunks_follow header xs (on_chunk a header x trigger now).0 l.past l.after next now
      (all_come_still initial id c l.after l.goes xs came.1) so.1 l.follows))

  packet_of_follows : (packet : Option Packet) (a : Shown) (h : History) (c : Course) (now : ℕ)
      → PacketComes initial id c packet → BringsOnly P packet → Follows P initial id a h c
      → LeadsUnlessLost P initial id (after_packet_of a packet now) c
  packet_of_follows None a h c now came so f = unlost a c (same_following P initial id a h c f)
  packet_of_follows (Some packet) a h c now came so f =
      chunks_follow packet.common_header packet.chunks a h c triggers.None now came so f

  packet_follows_unless : (lost : Bool) (packet : Option Packet) (a : Shown) (h : History) (c : Course) (now : ℕ)
      → PacketComes initial id c packet → BringsOnly P packet → Follows P initial id a h c
      → LeadsUnlessLost P initial id (if◌then◌else◌ {A = Shown} lost a (after_packet_of a packet now)) c
  packet_follows_unless true packet a h c now came so f = unlost a c (same_following P initial id a h c f)
  packet_follows_unless false packet a h c now came so f = packet_of_follows packet a h c now came so f

  -- A packet of the course's sender leads the course on, and is followed unless it loses the association.
  pub packet_follows : (packet : Option Packet) (a b : Shown) (h : History) (c : Course) (now : ℕ)
      → PacketComes initial id c packet → BringsOnly P packet → Follows P initial id a h c
      → b ≡ after_packet a packet now
      → LeadsUnlessLost P initial id b c
  packet_follows packet a b h c now came so f e =
      subst (λ (z : Shown). LeadsUnlessLost P initial id z c) (sym e)
      (packet_follows_unless a.lost packet a h c now came so f)
