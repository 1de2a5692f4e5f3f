-- A read on a stream keeps to the course of each stream: a message that is given is read in the course of its stream.
use Rattle.std.proofs.Common.{◌≡◌, ◌⊎◌, refl, sym, ap, ◌∙◌, subst, subst₂, inl, inr, ℕ, Bool, true, false, eqb}
use Rattle.std.proofs.Common.{if◌then◌else◌, List, [], ◌∷◌, ◌++◌, Option, Some, None, is_some}
use Rattle.std.proofs.lemmas.Bool.{eqb-false, eqb-true, true≢false}
use Rattle.sctp_wire_types.specs.declared.chunk.ChunkPayloadData.{ChunkPayloadData}
use Rattle.sctp_wire_types.specs.declared.error.Error.TheVariants as errors
use Rattle.sctp_receive_queues.specs.Messages.{ReceivedMessage}
use Rattle.sctp_streams.specs.Stream.{StreamView, is_read_half_open}
use Rattle.sctp_streams.specs.Streams.{StreamMap, read_in, stream_at}
use Rattle.sctp_generations.specs.Generations.{GenerationsView}
use Rattle.sctp_reset_requests.specs.Laws.{IsCompletedUpTo}
use Rattle.sctp_reset_requests.specs.Peer.{PeerView, boundary_of}
use Rattle.sctp_reset_requests.specs.Request.{PeerRequestView}
use Rattle.sctp_resets.specs.Channels.{channels}
use Rattle.sctp_resets.specs.Draining.{Reading, drained_out}
use Rattle.sctp_resets.specs.Resets.{ResetsView, Resetting, read_out, with_read}
use Rattle.sctp_directions.specs.Acts.{History}
use Rattle.sctp_courses.specs.Course.{Course}
use Rattle.sctp_courses.specs.Invariants.{Invariant}
use Rattle.sctp_reset_fit.specs.Held.{IsMadeOn}
use Rattle.sctp_reset_fit.specs.Keeping.{GoesOn, IsAsFar, KeepsCourse, StandsBeside}
use Rattle.sctp_reset_fit.specs.Laws.{LeadsTo, ReadsIt, Stands}
use Rattle.sctp_reset_fit.specs.Stands.{IsReadOn}
use Rattle.sctp_reset_fit.proofs.Elsewhere.{reads_elsewhere, reads_nothing, reads_on}
use Rattle.sctp_reset_fit.proofs.Keeping.{far_of, goes_nowhere, goes_of, goes_on}
use Rattle.sctp_reset_fit.proofs.Passing.{leads_keep}
use Rattle.sctp_assoc.specs.Calls.{after_read, credit_in, drained_behind, read_from_stream, read_refusal}
use Rattle.sctp_assoc.specs.Calls.{read_refusal_at}
use Rattle.sctp_assoc.specs.Leads.{Binds}
use Rattle.sctp_assoc.specs.Resets.{with_resetting}
use Rattle.sctp_assoc.specs.Shown.{Shown}
use Rattle.sctp_course_sides.specs.Follows.{AwaitsIts, Follows}
use Rattle.sctp_course_sides.proofs.ReceiverPolls.{KeepsOn, course_on, stands_on, stays_on, then_on, with_peer_of}
use Rattle.sctp_course_sides.proofs.ReceiverCalls.{await_on, eased_on, follow_on, follows_beside, untouched_leads}

-- What a read leaves

-- what resets leave of it, before it is seen whether the receive buffer is exhausted
abbrev read_behind : Shown → ℕ → Resetting
read_behind a k =
    read_out a.sender.queue.next_message_id a.receiver.max_receive_message_size k a.resets
    (channels (read_in a.streams k).0 a.events a.to_accept)

-- the association then
abbrev left_behind : Shown → ℕ → Shown
left_behind a k = drained_behind a k (read_in a.streams k).0

-- the peer's requests stay
read_peer : (r : ResetsView) (x : Reading) → (with_read r x).0.peer ≡ r.peer
read_peer r (g, c) = refl

behind_peer : (a : Shown) (k : ℕ) → (read_behind a k).0.peer ≡ a.resets.peer
behind_peer a k =
    read_peer a.resets
    (drained_out a.sender.queue.next_message_id a.receiver.max_receive_message_size k (boundary_of a.resets.peer k)
    (a.resets.generations, channels (read_in a.streams k).0 a.events a.to_accept))

-- a read gives what its stream gives
gives : (x : StreamMap × Option ReceivedMessage) (a : Shown) (k : ℕ) → (after_read a k x).1 ≡ x.1
gives (streams, None) a k = refl
gives (streams, Some message) a k = refl

-- A stream that is read is live, and its read half is open.

opens : (is_open : Bool) → (if is_open then None else Some errors.ErrStreamClosed) ≡ None → is_open ≡ true
opens true e = refl
opens false e = absurd (true≢false (ap is_some e))

live_if : (failed : Bool) (o : Option StreamView)
    → (if failed then Some errors.ErrAssociationFailed else read_refusal_at o) ≡ None
    → (t : StreamView) × (o ≡ Some t) × (is_read_half_open t.halves ≡ true)
live_if true o e = absurd (true≢false (ap is_some e))
live_if false None e = absurd (true≢false (ap is_some e))
live_if false (Some t) e = (t, refl, opens (is_read_half_open t.halves) e)

same_stream : (t u : StreamView) → Some t ≡ Some u → t ≡ u
same_stream t u e = cc

-- The stream of a course, and the initial TSN.
module _ (P : ChunkPayloadData → Type 0) (initial id : ℕ) where
  -- Where nothing is given

  drained_on : (a : Shown) (x : Resetting) → KeepsCourse P initial id a.resets a.streams x.0 x.1.streams
      → x.0.peer ≡ a.resets.peer → KeepsOn P initial id a (with_resetting a x)
  drained_on a (r, c) course peer =
      course_on P initial id a (with_resetting a (r, c)) course (ap (with_peer_of a) peer)

  after_on : (x : StreamMap × Option ReceivedMessage) (a : Shown) (k : ℕ) → (after_read a k x).0.lost ≡ false
      → KeepsOn P initial id (drained_behind a k x.0) (after_read a k x).0
  after_on (streams, None) a k lost = stays_on P initial id (drained_behind a k streams)
  after_on (streams, Some message) a k lost = eased_on P initial id (credit_in a) (drained_behind a k streams) lost

  silent_on : (a : Shown) (k : ℕ)
      → KeepsCourse P initial id a.resets a.streams (read_behind a k).0 (read_behind a k).1.streams
      → (read_from_stream a k).0.lost ≡ false → KeepsOn P initial id a (read_from_stream a k).0
  silent_on a k course lost =
      then_on P initial id (drained_on a (read_behind a k) course (behind_peer a k))
      (after_on (read_in a.streams k) a k lost)

  elsewhere_on : (a : Shown) (k : ℕ) → (k ≡ id → ⊥) → (read_from_stream a k).0.lost ≡ false
      → KeepsOn P initial id a (read_from_stream a k).0
  elsewhere_on a k other lost =
      silent_on a k
      (reads_elsewhere P initial id a.sender.queue.next_message_id a.receiver.max_receive_message_size k a.resets
      (channels a.streams a.events a.to_accept) other) lost

  nothing_on : (a : Shown) → (read_from_stream a id).1 ≡ None → (read_from_stream a id).0.lost ≡ false
      → KeepsOn P initial id a (read_from_stream a id).0
  nothing_on a none lost =
      silent_on a id
      (reads_nothing P initial id a.sender.queue.next_message_id a.receiver.max_receive_message_size a.resets
      (channels a.streams a.events a.to_accept) (sym (gives (read_in a.streams id) a id) ∙ none)) lost

  -- A read on another stream, or one that gives nothing, keeps on.
  pub read_keeps : (a : Shown) (k : ℕ) → (k ≡ id → ⊥) ⊎ ((read_from_stream a k).1 ≡ None)
      → (read_from_stream a k).0.lost ≡ false → KeepsOn P initial id a (read_from_stream a k).0
  read_keeps a k (inl other) lost = elsewhere_on a k other lost
  read_keeps a k (inr none) lost = by (eqb k id) refl
    where
      by : (b : Bool) → eqb k id ≡ b → KeepsOn P initial id a (read_from_stream a k).0
      by true e =
          let same : k ≡ id = eqb-true k id e in
          subst (λ (i : ℕ). (read_from_stream a i).1 ≡ None → (read_from_stream a i).0.lost ≡ false
          → KeepsOn P initial id a (read_from_stream a i).0) (sym same) (nothing_on a) none lost
      by false e = elsewhere_on a k (eqb-false k id e) lost

  -- The course goes on then, and nothing is read; unless the side was lost it follows that.
  pub silent_read_follows : (a : Shown) (k : ℕ) (h : History) (c : Course)
      → (k ≡ id → ⊥) ⊎ ((read_from_stream a k).1 ≡ None) → Follows P initial id a h c
      → (d : Course) × GoesOn c d × (d.told ≡ c.told)
      × ((read_from_stream a k).0.lost ≡ false → (l : History) × Follows P initial id (read_from_stream a k).0 l d)
  silent_read_follows a k h c silent f = by (read_from_stream a k).0.lost refl
    where
      by : (lost : Bool) → (read_from_stream a k).0.lost ≡ lost
          → (d : Course) × GoesOn c d × (d.told ≡ c.told)
          × ((read_from_stream a k).0.lost ≡ false → (l : History) × Follows P initial id (read_from_stream a k).0 l d)
      by true e = (c, goes_nowhere c, refl, λ not_lost. absurd (true≢false (sym e ∙ not_lost)))
      by false e =
          let on = follow_on P initial id a (read_from_stream a k).0 h c (read_keeps a k silent e) f in
          (on.0, on.1, on.2, λ not_lost. on.3)

  pub silent_read_awaits : (a : Shown) (k : ℕ) (c : Course) → (k ≡ id → ⊥) ⊎ ((read_from_stream a k).1 ≡ None)
      → AwaitsIts P initial id a c
      → (d : Course) × GoesOn c d × (d.told ≡ c.told)
      × ((read_from_stream a k).0.lost ≡ false → AwaitsIts P initial id (read_from_stream a k).0 d)
  silent_read_awaits a k c silent w = by (read_from_stream a k).0.lost refl
    where
      by : (lost : Bool) → (read_from_stream a k).0.lost ≡ lost
          → (d : Course) × GoesOn c d × (d.told ≡ c.told)
          × ((read_from_stream a k).0.lost ≡ false → AwaitsIts P initial id (read_from_stream a k).0 d)
      by true e = (c, goes_nowhere c, refl, λ not_lost. absurd (true≢false (sym e ∙ not_lost)))
      by false e =
          let on = await_on P initial id a (read_from_stream a k).0 c (read_keeps a k silent e) w in
          (on.0, on.1, on.2, λ not_lost. on.3)

  -- Where a message of the stream is given

  -- The course goes on to one in which the message was read, in the generation of the live stream, with the offsets of
  -- the pieces that it was made of; and this is so then.
  abbrev pub GoesOnReading : Shown → ReceivedMessage → Course → (Course → Type 0) → Type 0
  GoesOnReading a message c Behind =
      (d : Course) × GoesOn c d × (offsets : List ℕ) × IsMadeOn P initial id message offsets × (generation : ℕ)
      × ((t : StreamView) → stream_at a.streams id ≡ Some t → generation ≡ t.stats.generation)
      × (d.told ≡ c.told ++ record { generation = generation; offsets = offsets } ∷ []) × Behind d

  -- what is left stands beside the course that the read leads to
  drained_stands : (a : Shown) (x : Resetting) (c d : Course) → LeadsTo c d
      → Stands P initial id x.0.generations x.1.streams a.resets.peer.in_progress d → IsReadOn d
      → x.0.peer ≡ a.resets.peer → StandsBeside P initial id a.resets a.streams c
      → StandsBeside P initial id (with_resetting a x).resets (with_resetting a x).streams d
  drained_stands a (r, ch) c d leads stands read_on peer s =
      let far : IsAsFar c d = far_of c d leads in
      record {
        kept = leads_keep c d leads s.kept;
        stands = subst (λ (p : PeerView). Stands P initial id r.generations ch.streams p.in_progress d)
            (sym peer) stands;
        read_on = read_on;
        numbered = subst₂ (IsCompletedUpTo initial) (sym far.performed) (sym peer) s.numbered;
      }

  drained_awaits : (a : Shown) (x : Resetting) (c d : Course) → LeadsTo c d
      → Stands P initial id x.0.generations x.1.streams a.resets.peer.in_progress d → IsReadOn d
      → x.0.peer ≡ a.resets.peer → AwaitsIts P initial id a c → AwaitsIts P initial id (with_resetting a x) d
  drained_awaits a (r, ch) c d leads stands read_on peer w = record {
    kept = leads_keep c d leads w.kept;
    stands = subst (λ (p : PeerView). Stands P initial id r.generations ch.streams p.in_progress d) (sym peer) stands;
    read_on = read_on;
    unknown = ap (λ (p : PeerView). p.last_completed) peer ∙ w.unknown;
    untouched = untouched_leads c d leads w.untouched;
  }

  drained_binds : (a : Shown) (x : Resetting) → x.0.peer ≡ a.resets.peer → (h : History) → Binds a h
      → Binds (with_resetting a x) h
  drained_binds a (r, ch) peer h binds =
      stands_on a (with_resetting a (r, ch)) (ap (with_peer_of a) peer) h binds

  drained_follows : (a : Shown) (x : Resetting) (h : History) (c d : Course) → LeadsTo c d
      → Stands P initial id x.0.generations x.1.streams a.resets.peer.in_progress d → IsReadOn d
      → x.0.peer ≡ a.resets.peer → Follows P initial id a h c → Follows P initial id (with_resetting a x) h d
  drained_follows a x h c d leads stands read_on peer f =
      let far : IsAsFar c d = far_of c d leads in
      follows_beside P initial id a (with_resetting a x) h c d f (goes_of c d leads)
      (drained_stands a x c d leads stands read_on peer f.stands) far.point far.taken
      (drained_binds a x peer h f.binds)

  -- the message is read up to there
  read_up_to : (a : Shown) (message : ReceivedMessage) (c : Course) (t : StreamView) → Invariant c
      → Stands P initial id a.resets.generations a.streams a.resets.peer.in_progress c
      → stream_at a.streams id ≡ Some t → is_read_half_open t.halves ≡ true
      → (read_from_stream a id).1 ≡ Some message
      → (l : ReadsIt P initial id t.stats.generation message (read_behind a id).0.generations
      (read_behind a id).1.streams a.resets.peer.in_progress c) × IsReadOn l.after
  read_up_to a message c t inv stands is can given =
      reads_on P initial id a.sender.queue.next_message_id a.receiver.max_receive_message_size a.resets
      (channels a.streams a.events a.to_accept) message t c inv stands is can
      (sym (gives (read_in a.streams id) a id) ∙ given)

  goes_reading : (a : Shown) (message : ReceivedMessage) (c : Course) (t : StreamView) (g : GenerationsView)
      (m : StreamMap) (in_progress : Option PeerRequestView) (Behind : Course → Type 0)
      → stream_at a.streams id ≡ Some t → (l : ReadsIt P initial id t.stats.generation message g m in_progress c)
      → Behind l.after → GoesOnReading a message c Behind
  goes_reading a message c t g m in_progress Behind is l behind = (
    l.after,
    goes_of c l.after l.leads,
    l.offsets,
    l.made,
    t.stats.generation,
    λ u e. ap (λ (s : StreamView). s.stats.generation) (same_stream t u (sym is ∙ e)),
    l.told,
    behind,
  )

  goes_further : (a : Shown) (message : ReceivedMessage) (c : Course) (Behind After : Course → Type 0)
      → ((d : Course) → Behind d → (e : Course) × GoesOn d e × (e.told ≡ d.told) × After e)
      → GoesOnReading a message c Behind → GoesOnReading a message c After
  goes_further a message c Behind After on (d, goes, offsets, made, generation, is_of, told, behind) =
      let x = on d behind in (x.0, goes_on c d x.0 goes x.1, offsets, made, generation, is_of, x.2 ∙ told, x.3)

  -- and where the side is not lost, on from there
  goes_behind : (a : Shown) (message : ReceivedMessage) (c : Course) (Behind : Shown → Course → Type 0)
      → ((s b : Shown) (d : Course) → KeepsOn P initial id s b → Behind s d
      → (e : Course) × GoesOn d e × (e.told ≡ d.told) × Behind b e)
      → GoesOnReading a message c (Behind (left_behind a id))
      → GoesOnReading a message c (λ d. (read_from_stream a id).0.lost ≡ false → Behind (read_from_stream a id).0 d)
  goes_behind a message c Behind on read = by (read_from_stream a id).0.lost refl
    where
      by : (lost : Bool) → (read_from_stream a id).0.lost ≡ lost
          → GoesOnReading a message c
          (λ d. (read_from_stream a id).0.lost ≡ false → Behind (read_from_stream a id).0 d)
      by true e =
          goes_further a message c (Behind (left_behind a id))
          (λ d. (read_from_stream a id).0.lost ≡ false → Behind (read_from_stream a id).0 d)
          (λ d behind. (d, goes_nowhere d, refl, λ not_lost. absurd (true≢false (sym e ∙ not_lost)))) read
      by false e =
          goes_further a message c (Behind (left_behind a id))
          (λ d. (read_from_stream a id).0.lost ≡ false → Behind (read_from_stream a id).0 d)
          (λ d behind.
          (let x = on (left_behind a id) (read_from_stream a id).0 d (after_on (read_in a.streams id) a id e) behind in
          (x.0, x.1, x.2, λ not_lost. x.3))) read

  -- A read that gives a message of the stream: it is read in the course; unless the side was lost it follows that.
  pub read_follows : (a : Shown) (h : History) (c : Course) (message : ReceivedMessage) → read_refusal a id ≡ None
      → (read_from_stream a id).1 ≡ Some message → Follows P initial id a h c
      → GoesOnReading a message c
      (λ d. (read_from_stream a id).0.lost ≡ false → (k : History) × Follows P initial id (read_from_stream a id).0 k d)
  read_follows a h c message accepted given f =
      let live = live_if a.failed (stream_at a.streams id) accepted in
      let one = read_up_to a message c live.0 f.stands.kept f.stands.stands live.1 live.2 given in
      goes_behind a message c (λ s d. (k : History) × Follows P initial id s k d)
      (λ s b d keeps follows. follow_on P initial id s b follows.0 d keeps follows.1)
      (goes_reading a message c live.0 (read_behind a id).0.generations (read_behind a id).1.streams
      a.resets.peer.in_progress (λ d. (k : History) × Follows P initial id (left_behind a id) k d) live.1 one.0
      (h, drained_follows a (read_behind a id) h c one.0.after one.0.leads one.0.stands one.1 (behind_peer a id) f))

  pub read_awaits : (a : Shown) (c : Course) (message : ReceivedMessage) → read_refusal a id ≡ None
      → (read_from_stream a id).1 ≡ Some message → AwaitsIts P initial id a c
      → GoesOnReading a message c
      (λ d. (read_from_stream a id).0.lost ≡ false → AwaitsIts P initial id (read_from_stream a id).0 d)
  read_awaits a c message accepted given w =
      let live = live_if a.failed (stream_at a.streams id) accepted in
      let one = read_up_to a message c live.0 w.kept w.stands live.1 live.2 given in
      goes_behind a message c (λ s d. AwaitsIts P initial id s d)
      (λ s b d keeps waits. await_on P initial id s b d keeps waits)
      (goes_reading a message c live.0 (read_behind a id).0.generations (read_behind a id).1.streams
      a.resets.peer.in_progress (λ d. AwaitsIts P initial id (left_behind a id) d) live.1 one.0
      (drained_awaits a (read_behind a id) c one.0.after one.0.leads one.0.stands one.1 (behind_peer a id) w))
