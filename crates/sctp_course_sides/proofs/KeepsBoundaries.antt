-- A side that follows the course of a stream keeps its boundaries, over every list of calls.
use Rattle.std.proofs.Common.{◌≡◌, refl, sym, ap, ◌∙◌, subst, inl, inr, ℕ, Bool, true, false, eqb}
use Rattle.std.proofs.Common.{if◌then◌else◌, List, [], ◌∷◌, ◌++◌, Option, Some, None, is_some}
use Rattle.std.proofs.lemmas.Bool.{eqb-false, eqb-true, true≢false}
use Rattle.sctp_wire_types.specs.declared.chunk.ChunkPayloadData.{ChunkPayloadData}
use Rattle.sctp_wire_types.specs.declared.error.Error.TheVariants as errors
use Rattle.sctp_receive_queues.specs.Messages.{ReceivedMessage}
use Rattle.sctp_streams.specs.declared.event.Event.{Event}
use Rattle.sctp_streams.specs.Stream.{StreamView}
use Rattle.sctp_streams.specs.Streams.{stream_at}
use Rattle.sctp_courses.specs.Course.{Course, Told, fresh_course}
use Rattle.sctp_courses.specs.Events.{run}
use Rattle.sctp_courses.specs.Invariants.{Invariant}
use Rattle.sctp_courses.proofs.Proved.{the_invariant_is_enough}
use Rattle.sctp_reset_fit.specs.Keeping.{GoesOn}
use Rattle.sctp_reset_fit.proofs.Keeping.{goes_kept, goes_nowhere}
use Rattle.sctp_directions.specs.Acts.{History, begun}
use Rattle.sctp_assoc.specs.Calls.{read_from_stream, read_refusal, read_refusal_at}
use Rattle.sctp_assoc.specs.Chunks.{after_packet}
use Rattle.sctp_assoc.specs.Created.{joined}
use Rattle.sctp_assoc.specs.Shown.{Shown}
use Rattle.sctp_sides.specs.OneSide.{Call, call_refusal, carried_out}
use Rattle.sctp_course_sides.specs.Following.{LeadsUnlessLost}
use Rattle.sctp_course_sides.specs.Follows.{Follows}
use Rattle.sctp_course_sides.specs.Laws.{JoinedSidesKeepBoundaries, OneSideKeepsBoundaries}
use Rattle.sctp_course_sides.specs.Turns.{Brings, Grows, IsPresent, KeepsAlong, LeadsAlong, LeadsEitherWay}
use Rattle.sctp_course_sides.specs.Turns.{ReadsNothing, message_read}
use Rattle.sctp_course_sides.proofs.Beginning.{joined_follows}
use Rattle.sctp_course_sides.proofs.PacketFollows.{packet_follows}
use Rattle.sctp_course_sides.proofs.ReceiverCalls.{BringsAndReadsNothing, call_follows}
use Rattle.sctp_course_sides.proofs.ReceiverReads.{GoesOnReading, read_follows, silent_read_follows}
use Rattle.sctp_course_sides.proofs.SentBeside.{sent_beside}

-- a stream that a read is not refused on is live
live_of : (failed : Bool) (o : Option StreamView)
    → (if failed then Some errors.ErrAssociationFailed else read_refusal_at o) ≡ None → (t : StreamView) × (o ≡ Some t)
live_of true o e = absurd (true≢false (ap is_some e))
live_of false None e = absurd (true≢false (ap is_some e))
live_of false (Some t) e = (t, refl)

-- a message that was read
abbrev told_in : ℕ → List ℕ → Told
told_in generation offsets = record { generation = generation; offsets = offsets }

module _ (P : ChunkPayloadData → Type 0) (initial id : ℕ) where
  -- The course goes on to one in which this was read beyond what was before; unless the side was lost it follows that.
  abbrev pub Carries : Option ReceivedMessage → Shown → Shown → Course → Type 0
  Carries read a b c =
      (d : Course) × GoesOn c d × Grows P initial id read a c.told d.told
      × (b.lost ≡ false → (k : History) × Follows P initial id b k d)

  -- A call by which nothing comes and nothing is read

  quiet_carries : (call : Call) (a : Shown) (h : History) (c : Course) → BringsAndReadsNothing call
      → call_refusal call a ≡ None → Follows P initial id a h c → Carries None a (carried_out call a).0 c
  quiet_carries call a h c quiet accepted f = by (carried_out call a).0.lost refl
    where
      by : (lost : Bool) → (carried_out call a).0.lost ≡ lost → Carries None a (carried_out call a).0 c
      by true e = (c, goes_nowhere c, refl, λ not_lost. absurd (true≢false (sym e ∙ not_lost)))
      by false e =
          let on = call_follows P initial id call a h c quiet accepted e f in
          (on.0, on.1, on.2, λ not_lost. on.3)

  -- A datagram

  packet_carries : (a b : Shown) (c : Course) → (l : LeadsUnlessLost P initial id b c) → Carries None a b c
  packet_carries a b c l = (l.after, l.goes, l.told, l.follows)

  -- A read

  -- a message that is given is read on the live stream
  reading_carries : (message : ReceivedMessage) (a b : Shown) (c : Course) (t : StreamView)
      → stream_at a.streams id ≡ Some t
      → GoesOnReading P initial id a message c (λ d. b.lost ≡ false → (k : History) × Follows P initial id b k d)
      → Carries (Some message) a b c
  reading_carries message a b c t is (d, goes, offsets, made, generation, is_of, told, behind) = (
    d,
    goes,
    record {
      stream = t;
      live = is;
      offsets = offsets;
      made = made;
      is = told ∙ ap (λ (n : ℕ). c.told ++ told_in n offsets ∷ []) (is_of t is);
    },
    behind,
  )

  own_read_carries : (m : Option ReceivedMessage) (a : Shown) (h : History) (c : Course)
      → (read_from_stream a id).1 ≡ m → read_refusal a id ≡ None → Follows P initial id a h c
      → Carries m a (read_from_stream a id).0 c
  own_read_carries None a h c e accepted f = silent_read_follows P initial id a id h c (inr e) f
  own_read_carries (Some message) a h c e accepted f =
      let live = live_of a.failed (stream_at a.streams id) accepted in
      reading_carries message a (read_from_stream a id).0 c live.0 live.1
      (read_follows P initial id a h c message accepted e f)

  read_carries : (same : Bool) (k : ℕ) (a : Shown) (h : History) (c : Course) → eqb k id ≡ same
      → read_refusal a k ≡ None → Follows P initial id a h c
      → Carries (if same then (read_from_stream a k).1 else None) a (read_from_stream a k).0 c
  read_carries true k a h c e accepted f =
      subst (λ (i : ℕ). read_refusal a i ≡ None → Carries (read_from_stream a i).1 a (read_from_stream a i).0 c)
      (sym (eqb-true k id e)) (λ own. own_read_carries (read_from_stream a id).1 a h c refl own f) accepted
  read_carries false k a h c e accepted f = silent_read_follows P initial id a k h c (inl (eqb-false k id e)) f

  -- Any call that is carried out

  call_carries : (call : Call) (a : Shown) (h : History) (c : Course) → Brings P initial id c call
      → call_refusal call a ≡ None → Follows P initial id a h c
      → Carries (message_read id call a) a (carried_out call a).0 c
  call_carries (Call.OpenStream k kind) a h c brings e f = quiet_carries (Call.OpenStream k kind) a h c tt e f
  call_carries (Call.Write k named bytes) a h c brings e f = quiet_carries (Call.Write k named bytes) a h c tt e f
  call_carries (Call.Set k setting) a h c brings e f = quiet_carries (Call.Set k setting) a h c tt e f
  call_carries Call.AcceptStream a h c brings e f = quiet_carries Call.AcceptStream a h c tt e f
  call_carries (Call.SetMaxSendMessageSize size) a h c brings e f =
      quiet_carries (Call.SetMaxSendMessageSize size) a h c tt e f
  call_carries Call.Shutdown a h c brings e f = quiet_carries Call.Shutdown a h c tt e f
  call_carries Call.Close a h c brings e f = quiet_carries Call.Close a h c tt e f
  call_carries (Call.Read k) a h c brings e f = read_carries (eqb k id) k a h c refl e f
  call_carries Call.Poll a h c brings e f = quiet_carries Call.Poll a h c tt e f
  call_carries Call.PollEndpointEvent a h c brings e f = quiet_carries Call.PollEndpointEvent a h c tt e f
  call_carries (Call.PollTransmit now) a h c brings e f = quiet_carries (Call.PollTransmit now) a h c tt e f
  call_carries (Call.HandleTimeout now) a h c brings e f = quiet_carries (Call.HandleTimeout now) a h c tt e f
  call_carries (Call.HandleEvent packet now) a h c brings e f =
      packet_carries a (after_packet a packet now) c
      (packet_follows P initial id packet a (after_packet a packet now) h c now brings.0 brings.1 f refl)
  call_carries (Call.Stop k) a h c brings e f = quiet_carries (Call.Stop k) a h c tt e f
  call_carries (Call.CloseStream k) a h c brings e f = quiet_carries (Call.CloseStream k) a h c tt e f

  -- One call

  -- whatever is so of a present side that follows a course, is so of what the call leaves
  module _ (Later : Shown → Course → Type 0)
      (on : (b : Shown) (h : History) (d : Course) → IsPresent b → Follows P initial id b h d → Later b d) where
    -- nothing was read, and the course is where it was
    nothing_leads : (b : Shown) (c : Course) → Invariant c → (IsPresent b → Later b c)
        → LeadsAlong ReadsNothing b c Later
    nothing_leads b c kept later = record {
      after = c;
      goes = goes_nowhere c;
      read = refl;
      keeps = the_invariant_is_enough c kept;
      later = later;
    }

    carried_leads : (read : Option ReceivedMessage) (a b : Shown) (c : Course) → Invariant c → Carries read a b c
        → LeadsAlong (Grows P initial id read a) b c Later
    carried_leads read a b c kept (d, goes, grows, follows) = record {
      after = d;
      goes = goes;
      read = grows;
      keeps = the_invariant_is_enough d (goes_kept c d goes kept);
      later = λ present. (let l = follows present.not_lost in on b l.0 d present l.1);
    }

    call_leads : (call : Call) (told : List Event) (a b : Shown) (h : History) (c : Course)
        → Brings P initial id c call → Follows P initial id a h c → LeadsEitherWay P initial id call told a b c Later
    call_leads call told a b h c brings f = record {
      done = λ carried.
          carried_leads (message_read id call a) a b c f.stands.kept
          (subst (λ (z : Shown × List Event). Carries (message_read id call a) a z.0 c) carried.there
          (call_carries call a h c brings carried.accepted f));
      unchanged = λ same.
          nothing_leads b c f.stands.kept
          (λ present. on b h c present (subst (λ (x : Shown). Follows P initial id x h c) (sym same.same) f));
      failed = λ fails.
          nothing_leads b c f.stands.kept
          (λ present. absurd (true≢false (sym fails.failed.marked ∙ present.working)));
    }

-- turn after turn
pub one_side_keeps_boundaries : (P : ChunkPayloadData → Type 0) → OneSideKeepsBoundaries P
one_side_keeps_boundaries P initial id [] a h c f = the_invariant_is_enough c f.stands.kept
one_side_keeps_boundaries P initial id (turn ∷ turns) a h c f =
    λ b told sent few brings.
    call_leads P initial id (KeepsAlong P initial id turns)
    (λ z k d there follows. one_side_keeps_boundaries P initial id turns z k d follows) turn.call told a b h
    (run turn.sent c) brings (sent_beside P initial id a h c turn.sent sent few f)

-- and from two tokens on
pub joined_sides_keep_boundaries : (P : ChunkPayloadData → Type 0) → JoinedSidesKeepBoundaries P
joined_sides_keep_boundaries P config size remote_addr local_ip own peer id turns own_small peer_small =
    one_side_keeps_boundaries P peer.initial_tsn id turns (joined config size remote_addr local_ip own peer)
    (begun own.initial_tsn peer.initial_tsn) fresh_course
    (joined_follows P config size remote_addr local_ip own peer id own_small peer_small)
